-- `child_codec::are_sound` meets its contract: one test after another.
use Prim.Native.Nat.{ℕ, ◌+◌, ◌-◌, ◌*◌, ◌≤◌, ◌<◌}
use mathlib.Core.Bool.{Bool, true, false, ◌&&◌}
use mathlib.Core.List.{List}
use mathlib.Core.Path.{◌≡◌, refl, sym, ap, ◌∙◌}
use native.Mathlib.Nat.{add-zero}
use borrow.Author.Tests.{le-leb, lt-leb}
use Rattle.octets.specs.Part.{zeros_at}
use Rattle.octets.specs.Row.{row}
use Rattle.octets.specs.Search.{all_of, any_of, distinct}
use Rattle.octets.proofs.Search.{and_false}
use Rattle.children.specs.declared.Child.{Child}
use Rattle.children.specs.Children.{child_fits, child_from, child_in, children_from, children_written, spis_differ}
use Rattle.child_codec.proofs.are_sound.Goals as goal

module _ (l : List ℕ) (at n : ℕ) where
  abbrev Sound : Bool
  Sound = children_written l at n && all_of child_fits (children_from l at n) && spis_differ (children_from l at n)

  -- one child
  lone : n ≡ 1 → (c : Child) → c ≡ child_from l at → (r : Bool) → r ≡ child_fits c → (z : Bool) → z ≡ zeros_at l (at + 5) 35 → r && z ≡ Sound
  unfolding children_written children_from child_in row all_of spis_differ distinct any_of
  lone e c read r fits z zeros =
      let own : r ≡ child_fits (child_from l (at + 5 * 0)) = fits ∙ ap child_fits (read ∙ ap (child_from l) (sym (add-zero at))) in
      rw (e, zeros, own) (turned (child_fits (child_from l (at + 5 * 0))) (zeros_at l (at + 5) 35))
    where
      turned : (a b : Bool) → a && b ≡ (b && (a && true)) && true
      turned true true = refl
      turned true false = refl
      turned false true = refl
      turned false false = refl

  many : 8 < n → false ≡ Sound
  unfolding children_written
  many h = sym (rw (lt-leb n 8 h))

  unfit : all_of child_fits (children_from l at n) ≡ false → false ≡ Sound
  unfit e =
      sym (ap (λ (t : Bool). t && spis_differ (children_from l at n)) (and_false (children_written l at n) (all_of child_fits (children_from l at n)) e))

  module _ (few : n ≤ 8) where
    unwritten : zeros_at l (at + 5 * n) (40 - 5 * n) ≡ false → false ≡ Sound
    unfolding children_written
    unwritten e = sym (rw (le-leb n 8 few, e))

    by-spis : zeros_at l (at + 5 * n) (40 - 5 * n) ≡ true → all_of child_fits (children_from l at n) ≡ true → spis_differ (children_from l at n) ≡ Sound
    unfolding children_written
    by-spis none e = sym (rw (le-leb n 8 few, none, e))

pub returns-then-n-eq1 : goal.returns-then-n-eq1
returns-then-n-eq1 c = lone _ _ _ c.if-n-eq1.true _ c.read_child-child.ensures _ c.child_fits.ensures _ c.zeros_at.ensures

pub returns-then-n-gt-CHILDREN : goal.returns-then-n-gt-CHILDREN
returns-then-n-gt-CHILDREN c = many _ _ _ c.if-n-gt-CHILDREN.true

pub returns-then-not-fit_at : goal.returns-then-not-fit_at
returns-then-not-fit_at c = unfit _ _ _ (sym c.fit_at.ensures ∙ c.if-not-fit_at.true)

pub returns-then-not-zeros_at : goal.returns-then-not-zeros_at
returns-then-not-zeros_at c = unwritten _ _ _ c.if-n-gt-CHILDREN.false (sym c.zeros_at-2.ensures ∙ c.if-not-zeros_at.true)

pub returns : goal.returns
returns c =
    c.differ_at.ensures
    ∙ by-spis _ _ _ c.if-n-gt-CHILDREN.false (sym c.zeros_at-2.ensures ∙ c.if-not-zeros_at.false) (sym c.fit_at.ensures ∙ c.if-not-fit_at.false)
