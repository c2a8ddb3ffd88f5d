-- `hold_codec::end_of` meets its contract: zero is no end.
use mathlib.Core.Path.{sym}
use borrow.Author.Tests.{eq-eqb, ne_eqb}
use Rattle.holds.specs.Holds.{end_of}
use Rattle.hold_codec.proofs.end_of.Goals as goal

pub returns-then-number-eq0 : goal.returns-then-number-eq0
unfolding end_of
returns-then-number-eq0 c = sym (rw (eq-eqb _ _ c.if-number-eq0.true))

pub returns : goal.returns
unfolding end_of
returns c = sym (rw (ne_eqb _ _ c.if-number-eq0.false))
