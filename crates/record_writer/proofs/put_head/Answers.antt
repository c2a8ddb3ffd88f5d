-- `record_writer::put_head` meets its contract: two writes, the second where the first ends.
use mathlib.Core.Path.{refl}
use Rattle.octets.specs.Digits.{be, digits}
use Rattle.octets.proofs.Parts.{then}
use Rattle.record_writer.proofs.put_head.Goals as goal

pub returns : goal.returns
unfolding be digits
returns c =
    then c.put.ensures c.put_phase.ensures refl
