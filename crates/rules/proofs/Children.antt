-- A line gets other children.
use Prim.Native.Nat.{ℕ}
use mathlib.Core.Bool.{true, false}
use mathlib.Core.List.{List, [], ◌∷◌, ◌++◌}
use mathlib.Core.Path.{◌≡◌, refl}
use native.Mathlib.Omega.{arith}
use lib.Dec.{leb}
use lib.ListN.{length, length-append}
use borrow.Author.Tests.{le-leb, leb-false}
use Rattle.octets.specs.Row.{only}
use Rattle.octets.specs.Search.{all_of, distinct}
use Rattle.octets.proofs.Search.{and_left, and_right, eqb_turned, smaller}
use Rattle.octets.proofs.Sublists.{all_last, distinct_last, only_all, only_distinct, only_length}
use Rattle.children.specs.Children.{child_fits, has_spi, is_other, is_spi, same_spi, spis_differ}
use Rattle.children.specs.Laws.{child_storable}
use Rattle.children.specs.declared.Child.{Child}
use Rattle.phase.specs.Chosen.{chosen}
use Rattle.phase.specs.Laws.{phase_storable}
use Rattle.phase.specs.Phase.{phase_fits}
use Rattle.phase.specs.Stage.{is_in}
use Rattle.phase.specs.Stage as Stage
use Rattle.phase.specs.declared.Phase.{Phase}
use Rattle.phase.specs.declared.Phase.TheVariants.{Idle}
use Rattle.record.specs.Changes.{in_phase, with_children}
use Rattle.record.specs.Line.{Line}
use Rattle.record.specs.Sound.{chosen_free}
use Rattle.rules.specs.Refusals.{is_child}
use Rattle.rules.proofs.Valid.{ChildrenValid, Valid}

-- the test of equal SPIs goes both ways
spi_turned : (c d : Child) → same_spi c d ≡ same_spi d c
unfolding same_spi is_spi
spi_turned c d = eqb_turned c.spi d.spi

-- a child whose numbers are in their ranges
module _ (spi session : ℕ) (good : is_child (record { spi = spi; session = session }) ≡ true) where
  abbrev child : Child
  child = record { spi = spi; session = session }

  child_fits_lem : child_fits child ≡ true
  unfolding is_child
  child_fits_lem = and_left (child_fits child) (child_storable child) good

  child_storable_lem : child_storable child ≡ true
  unfolding is_child
  child_storable_lem = and_right (child_fits child) (child_storable child) good

  -- one child more on a live line
  module _ (p : Phase) (cs : List Child) (c : ChildrenValid p cs) where
    one_more : is_in Stage.live p ≡ true → has_spi spi cs ≡ false → leb 8 (length cs) ≡ false → ChildrenValid p (cs ++ child ∷ [])
    unfolding has_spi spis_differ same_spi
    one_more on new room = record {
      fit = all_last child_fits cs child c.fit child_fits_lem;
      storable = all_last child_storable cs child c.storable child_storable_lem;
      few = le-leb (length (cs ++ child ∷ [])) 8 (omega (arith, length-append cs (child ∷ []), leb-false 8 (length cs) room));
      on_live = rw on;
      differ = distinct_last same_spi spi_turned cs child new c.differ;
    }

-- one child less
one_less : (spi : ℕ) (p : Phase) (cs : List Child) → ChildrenValid p cs → is_in Stage.live p ≡ true → ChildrenValid p (only (is_other spi) cs)
unfolding spis_differ
one_less spi p cs c on =
    let q = is_other spi in
    record {
      fit = only_all q child_fits cs c.fit;
      storable = only_all q child_storable cs c.storable;
      few = smaller (length (only q cs)) (length cs) 8 (only_length q cs) c.few;
      on_live = rw on;
      differ = only_distinct q same_spi cs c.differ;
    }

module _ (x : Line) (v : Valid x) where
  -- valid children of the same phase
  with_children_lem : (cs : List Child) → ChildrenValid x.phase cs → Valid (with_children x cs)
  unfolding with_children
  with_children_lem cs c = record { small = v.small; phase_valid = v.phase_valid; children_valid = c; holds_valid = v.holds_valid }

  pub child_made_valid : (spi session : ℕ) → is_child (record { spi = spi; session = session }) ≡ true → is_in Stage.live x.phase ≡ true → has_spi spi x.children ≡ false
      → leb 8 (length x.children) ≡ false → Valid (with_children x (x.children ++ record { spi = spi; session = session } ∷ []))
  child_made_valid spi session good on new room =
      with_children_lem (x.children ++ record { spi = spi; session = session } ∷ [])
      (one_more spi session good x.phase x.children v.children_valid on new room)

  pub child_deleted_valid : (spi : ℕ) → is_in Stage.live x.phase ≡ true → Valid (with_children x (only (is_other spi) x.children))
  child_deleted_valid spi on = with_children_lem (only (is_other spi) x.children) (one_less spi x.phase x.children v.children_valid on)

  -- the line goes with all its children
  pub deleted_valid : Valid (with_children (in_phase x Idle) [])
  unfolding with_children in_phase phase_fits phase_storable child_fits all_of is_in chosen_free chosen spis_differ distinct
  deleted_valid =
      let h = v.holds_valid in
      record {
        small = v.small;
        phase_valid = record { fits = refl; storable = refl };
        children_valid = record { fit = refl; storable = refl; few = refl; on_live = refl; differ = refl };
        holds_valid = record { few = h.few; room = refl; differ = h.differ; free = refl; late = h.late; storable = h.storable };
      }
