-- `ike::congestion::held_until` meets its contract: the hold stands behind the others.
use mathlib.Core.List.{append-nil}
use mathlib.Core.Path.{refl, ap, ◌∙◌}
use native.Mathlib.Omega.{arith}
use borrow.Author.Rules.{rules}
use Rattle.holds.specs.Listed.{holds_of}
use Rattle.record.specs.Changes.{with_holds}
use Rattle.record.specs.Line.{line_of}
use Rattle.record.proofs.Counts.{counted}
use Rattle.ike.proofs.congestion.held_until.Goals as goal

pub returns-in_default : goal.returns-in_default
unfolding line_of with_holds
returns-in_default c = rw (c.in_default.is, append-nil (holds_of c.args.line.holds)) refl

pub push-requires : goal.push-requires
unfolding line_of
push-requires c = omega (arith, counted c.args.line.holds (search rules), c.requires)

pub returns : goal.returns
unfolding line_of
returns c = rw c.in-Some.is (c.with_holds.ensures ∙ ap (with_holds (line_of c.args.line)) c.push.ensures.items)
