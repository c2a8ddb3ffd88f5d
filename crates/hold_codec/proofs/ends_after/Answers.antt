-- `hold_codec::ends_after` meets its contract: the end picks the case.
use mathlib.Core.Path.{sym}
use Rattle.holds.specs.Holds.{end_after}
use Rattle.hold_codec.proofs.ends_after.Goals as goal

pub returns-in-At : goal.returns-in-At
unfolding end_after
returns-in-At c = sym (rw c.in-At.is)

pub returns-in-Never : goal.returns-in-Never
unfolding end_after
returns-in-Never c = sym (rw c.in-Never.is)
