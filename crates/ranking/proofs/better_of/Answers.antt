-- `ranking::better_of` meets its contract: the record so far stays unless the later one is better.
use mathlib.Core.Path.{sym}
use Rattle.ranking.specs.Branch.{best_of}
use Rattle.ranking.proofs.Picks.{stays, gives_way}
use Rattle.ranking.proofs.better_of.Goals as goal

pub returns-in_default : goal.returns-in_default
unfolding best_of
returns-in_default c = sym (rw c.in_default.is)

pub returns-then-y-x : goal.returns-then-y-x
returns-then-y-x c = rw c.in-Some.is (stays _ _ c.if-y-x.true)

pub returns-else-y-x : goal.returns-else-y-x
returns-else-y-x c = rw c.in-Some.is (gives_way _ _ c.if-y-x.false)
