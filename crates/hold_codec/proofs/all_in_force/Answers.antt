-- `hold_codec::all_in_force` meets its contract. The loop's invariant: the holds that are left decide.
use mathlib.Core.Bool.{true, false}
use mathlib.Core.Path.{sym, ◌∙◌}
use native.Mathlib.Nat.{sub-zero}
use Rattle.octets.proofs.Rows.{rest_more, rest_none}
use Rattle.holds.specs.Holds.{ends_after, hold_from, hold_in, holds_from}
use Rattle.hold_codec.proofs.all_in_force.Goals as goal

pub loop-i-init : goal.loop-i-init
unfolding holds_from
loop-i-init c = rw sub-zero

pub returns-then-not-ends_at_after : goal.returns-then-not-ends_at_after
unfolding ends_after hold_in hold_from
returns-then-not-ends_at_after c =
    let a = c.args in
    let at-loop = c.loop-i in
    sym (at-loop.invariant ∙ rest_more (hold_in a.b.now a.at) (ends_after a.time) a.n at-loop.i c.loop-i-test.true false (sym c.ends_at_after.ensures ∙ c.if-not-ends_at_after.true))

pub loop-i-preserved : goal.loop-i-preserved
unfolding ends_after hold_in hold_from
loop-i-preserved c =
    let a = c.args in
    let at-loop = c.loop-i in
    at-loop.invariant ∙ rest_more (hold_in a.b.now a.at) (ends_after a.time) a.n at-loop.i c.loop-i-test.true true (sym c.ends_at_after.ensures ∙ c.if-not-ends_at_after.false)

pub returns : goal.returns
returns c = sym (c.loop-i.invariant ∙ rest_none _ _ _ _ c.loop-i-test.false)
