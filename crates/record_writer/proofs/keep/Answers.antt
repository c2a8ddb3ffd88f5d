-- `record_writer::keep` meets its contract: the holds that have ended are dropped, and the time and the phase are written.
use Rattle.record.proofs.Keeping.{kept_in}
use Rattle.record_writer.proofs.keep.Goals as goal

pub returns : goal.returns
returns c =
    let a = c.args in
    kept_in a.b.now c.requires.1 a.time a.phase c.drop_ended.ensures c.put_head.ensures
