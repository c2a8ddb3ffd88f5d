-- `child_codec::has_spi_at` meets its contract. The loop's invariant: the children that are left decide.
use Prim.Native.Nat.{ℕ, ◌+◌, ◌*◌, ◌≤◌, ◌<◌}
use mathlib.Core.Bool.{Bool, false, ◌||◌}
use mathlib.Core.List.{List}
use mathlib.Core.Path.{◌≡◌, sym, ap, ◌∙◌}
use native.Mathlib.Nat.{sub-zero}
use lib.Dec.{eqb}
use borrow.Author.Tests.{eq-eqb, ne_eqb}
use Rattle.octets.specs.Search.{any_of}
use Rattle.octets.proofs.Rows.{row_done, row_more}
use Rattle.children.specs.declared.Child.{Child}
use Rattle.children.specs.Children.{child_from, child_in, children_from, has_spi, is_spi}
use Rattle.child_codec.proofs.has_spi_at.Invariants.{Left}
use Rattle.child_codec.proofs.has_spi_at.Goals as goal

module _ (l : List ℕ) (at n spi i : ℕ) where
  -- the next child decides first
  next : i < n → {c : Child} → c ≡ child_from l (at + 5 * i) → {t : Bool} → eqb spi c.spi ≡ t → Left l at n spi i ≡ t || Left l at n spi (i + 1)
  unfolding has_spi any_of is_spi child_in
  next h read {t} test =
      let tested : eqb spi (child_in l at i).spi ≡ t = ap (λ (k : Child). eqb spi k.spi) (sym read) ∙ test in
      rw (row_more (child_in l at) i n h, tested)

  -- none is left
  done : n ≤ i → Left l at n spi i ≡ false
  unfolding has_spi any_of
  done h = rw (row_done (child_in l at) i n h)

pub loop-i-init : goal.loop-i-init
unfolding children_from
loop-i-init c = rw sub-zero

pub returns-then-spi-read_child : goal.returns-then-spi-read_child
returns-then-spi-read_child c =
    let at-loop = c.loop-i in
    let a = c.args in
    sym (at-loop.invariant ∙ next a.b.now a.at a.n a.spi at-loop.i c.loop-i-test.true c.read_child.ensures (eq-eqb _ _ c.if-spi-read_child.true))

pub loop-i-preserved : goal.loop-i-preserved
loop-i-preserved c =
    let at-loop = c.loop-i in
    let a = c.args in
    at-loop.invariant ∙ next a.b.now a.at a.n a.spi at-loop.i c.loop-i-test.true c.read_child.ensures (ne_eqb _ _ c.if-spi-read_child.false)

pub returns : goal.returns
returns c =
    let at-loop = c.loop-i in
    let a = c.args in
    sym (at-loop.invariant ∙ done a.b.now a.at a.n a.spi at-loop.i c.loop-i-test.false)
