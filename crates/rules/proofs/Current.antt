-- A line as a call finds it: its time stored, without its ended holds.
use Rattle.std.specs.Prelude.{Option, None, Some}
use Prim.Native.Nat.{ℕ, ◌^◌}
use mathlib.Core.Bool.{Bool, true, false, not}
use mathlib.Core.List.{List, map}
use mathlib.Core.Path.{◌≡◌, refl, sym, ap, ◌∙◌}
use native.Mathlib.Omega.{arith}
use lib.Dec.{leb, ltb}
use lib.ListN.{length}
use borrow.Author.Tests.{lt-ltb, ltb-false, not-true}
use Rattle.octets.specs.Row.{only}
use Rattle.octets.specs.Search.{any_of}
use Rattle.address.specs.Address.{address_in, same_address, stands}
use Rattle.address.specs.declared.Address.{Address}
use Rattle.address.specs.declared.Hold.{Hold}
use Rattle.holds.specs.Holds.{different, ends_after}
use Rattle.holds.specs.Laws.{hold_storable}
use Rattle.phase.specs.Chosen.{chosen}
use Rattle.phase.specs.Stage.{is_in}
use Rattle.phase.specs.Stage as Stage
use Rattle.phase.specs.declared.Phase.{Phase}
use Rattle.record.specs.Changes.{current}
use Rattle.record.specs.Line.{Line}
use Rattle.record.specs.Sound.{chosen_free}
use Rattle.octets.proofs.Search.{or_second, smaller}
use Rattle.octets.proofs.Sublists.{any_map, distinct_map, only_all, only_distinct, only_length, only_none, only_passes}
use Rattle.rules.proofs.Valid.{HoldsValid, Valid}

-- holds that are left
module _ (q : Hold → Bool) (hs : List Hold) where
  left_different : different (map address_in hs) ≡ true → different (map address_in (only q hs)) ≡ true
  unfolding different
  left_different h =
      distinct_map address_in same_address (only q hs)
      ∙ only_distinct q (λ g k. same_address (address_in g) (address_in k)) hs (sym (distinct_map address_in same_address hs) ∙ h)

  left_free : (o : Option Address) → chosen_free o (map address_in hs) ≡ true → chosen_free o (map address_in (only q hs)) ≡ true
  unfolding chosen_free stands
  left_free None h = refl
  left_free (Some a) h =
      let apart = sym (any_map address_in (same_address a) hs) ∙ not-true (any_of (same_address a) (map address_in hs)) h in
      ap not (any_map address_in (same_address a) (only q hs) ∙ only_none q (λ g. same_address a (address_in g)) hs apart)

module _ (time : ℕ) where
  -- the holds that haven't ended are valid at the new time
  holds_left : (before : ℕ) (p : Phase) (hs : List Hold) → HoldsValid before p hs → HoldsValid time p (only (ends_after time) hs)
  holds_left before p hs h =
      let q = ends_after time in
      let less = only_length q hs in
      record {
        few = smaller (length (only q hs)) (length hs) 8 less h.few;
        room = or_second (is_in Stage.idle p) (leb (length hs) 7) (leb (length (only q hs)) 7) (smaller (length (only q hs)) (length hs) 7 less) h.room;
        differ = left_different q hs h.differ;
        free = left_free q hs (chosen p) h.free;
        late = only_passes q hs;
        storable = only_all q hold_storable hs h.storable;
      }

  -- a time in its range is stored
  pub current_valid : (x : Line) → Valid x → ltb 4294967295 time ≡ false → Valid (current time x)
  unfolding current
  current_valid x v out = record {
    small = lt-ltb time (256 ^ 4) (omega (arith, ltb-false 4294967295 time out));
    phase_valid = v.phase_valid;
    children_valid = v.children_valid;
    holds_valid = holds_left x.time x.phase x.holds v.holds_valid;
  }
