-- `hold_codec::end_number` meets its contract: the end picks the case.
use mathlib.Core.Path.{sym}
use Rattle.holds.specs.Holds.{end_number}
use Rattle.hold_codec.proofs.end_number.Goals as goal

pub returns-in-At : goal.returns-in-At
unfolding end_number
returns-in-At c = sym (rw c.in-At.is)

pub returns-in-Never : goal.returns-in-Never
unfolding end_number
returns-in-Never c = sym (rw c.in-Never.is)
