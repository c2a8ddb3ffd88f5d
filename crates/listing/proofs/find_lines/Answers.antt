-- `listing::find_lines` meets its contract. The loop's invariant: of the records from i on, the first ones of the lines are found.
use mathlib.Core.Path.{refl, ◌∙◌}
use native.Mathlib.Omega.{arith}
use lib.ListN.{length-set}
use Rattle.table.specs.Table.{pair_at}
use Rattle.listing.proofs.Finds.{found_all, found_none, found_other, found_own}
use Rattle.listing.proofs.find_lines.Goals as goal

pub loop-i-init : goal.loop-i-init
loop-i-init c = (refl, found_none _ _)

pub loop-i-preserved-then-number-tenant : goal.loop-i-preserved-then-number-tenant
unfolding pair_at
loop-i-preserved-then-number-tenant c =
    let at-loop = c.loop-i in
    let a = c.args in
    (length-set at-loop.found _ _ ∙ at-loop.invariant.0, found_own a.table.now a.tenant at-loop.i _ c.get.ensures.0 c.if-number-tenant.true at-loop.found at-loop.invariant.0 c.loop-i-test.true at-loop.auto.i at-loop.invariant.1)

pub loop-i-preserved : goal.loop-i-preserved
unfolding pair_at
loop-i-preserved c =
    let at-loop = c.loop-i in
    let a = c.args in
    (at-loop.invariant.0, found_other a.table.now a.tenant at-loop.i _ c.get.ensures.0 c.if-number-tenant.false at-loop.found at-loop.invariant.1)

pub returns : goal.returns
returns c =
    let at-loop = c.loop-i in
    let a = c.args in
    λ line h. found_all a.table.now a.tenant at-loop.i at-loop.found c.loop-i-test.false at-loop.invariant.1 line (omega arith)
