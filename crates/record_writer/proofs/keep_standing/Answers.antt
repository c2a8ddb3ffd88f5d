-- `record_writer::keep_standing` meets its contract: the holds that have ended are dropped, and the time is written, and where the phase stands.
use Rattle.record.proofs.Keeping.{stood_in}
use Rattle.record_writer.proofs.keep_standing.Goals as goal

pub returns : goal.returns
returns c =
    let a = c.args in
    stood_in a.b.now c.requires.1 a.time a.s c.drop_ended.ensures c.put.ensures c.put_standing.ensures
