-- `record_writer::keep_hold` meets its contract: the chosen address is that of the phase, and it is held behind the holds in force.
use Rattle.record.proofs.Adding.{hold_kept}
use Rattle.record_writer.proofs.keep_hold.Goals as goal

pub returns : goal.returns
returns c =
    let a = c.args in
    λ d is. hold_kept a.b.now c.requires.1 d is a.time a.end c.read_address-address.ensures c.drop_ended.ensures c.add_hold.ensures c.put_head.ensures
