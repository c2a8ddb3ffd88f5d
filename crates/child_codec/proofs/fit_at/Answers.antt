-- `child_codec::fit_at` meets its contract. The loop's invariant: the children that are left decide.
use Prim.Native.Nat.{ℕ, ◌+◌, ◌*◌, ◌<◌}
use mathlib.Core.Bool.{Bool, ◌&&◌}
use mathlib.Core.List.{List}
use mathlib.Core.Path.{◌≡◌, sym, ap, ◌∙◌}
use native.Mathlib.Nat.{sub-zero}
use Rattle.octets.proofs.Rows.{rest_more, rest_none}
use Rattle.children.specs.declared.Child.{Child}
use Rattle.children.specs.Children.{child_fits, child_from, child_in, children_from}
use Rattle.child_codec.proofs.fit_at.Invariants.{Left}
use Rattle.child_codec.proofs.fit_at.Goals as goal

module _ (l : List ℕ) (at n i : ℕ) where
  -- the next child decides first
  next : i < n → {c : Child} {r t : Bool} → c ≡ child_from l (at + 5 * i) → r ≡ child_fits c → r ≡ t → Left l at n i ≡ t && Left l at n (i + 1)
  unfolding child_in
  next h {t = t} read fits test = rest_more (child_in l at) child_fits n i h t (ap child_fits (sym read) ∙ sym fits ∙ test)

pub loop-i-init : goal.loop-i-init
unfolding children_from
loop-i-init c = rw sub-zero

pub returns-then-not-child_fits : goal.returns-then-not-child_fits
returns-then-not-child_fits c =
    let a = c.args in
    let at-loop = c.loop-i in
    sym (at-loop.invariant ∙ next a.b.now a.at a.n at-loop.i c.loop-i-test.true c.read_child.ensures c.child_fits.ensures c.if-not-child_fits.true)

pub loop-i-preserved : goal.loop-i-preserved
loop-i-preserved c =
    let a = c.args in
    let at-loop = c.loop-i in
    at-loop.invariant ∙ next a.b.now a.at a.n at-loop.i c.loop-i-test.true c.read_child.ensures c.child_fits.ensures c.if-not-child_fits.false

pub returns : goal.returns
returns c = sym (c.loop-i.invariant ∙ rest_none _ _ _ _ c.loop-i-test.false)
