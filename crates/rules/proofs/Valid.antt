-- A line that is sound and whose parts fit their octets, one condition after another.
use Prim.Native.Nat.{ℕ, ◌^◌}
use mathlib.Core.Bool.{true, ◌||◌}
use mathlib.Core.List.{List, map}
use mathlib.Core.Path.{◌≡◌}
use lib.Dec.{leb, ltb}
use lib.ListN.{length}
use Rattle.octets.specs.Search.{all_of}
use Rattle.octets.proofs.Search.{and_left, and_right}
use Rattle.address.specs.Address.{address_in}
use Rattle.address.specs.declared.Hold.{Hold}
use Rattle.children.specs.Children.{child_fits, spis_differ}
use Rattle.children.specs.Laws.{child_storable}
use Rattle.children.specs.declared.Child.{Child}
use Rattle.holds.specs.Holds.{different, ends_after}
use Rattle.holds.specs.Laws.{hold_storable}
use Rattle.phase.specs.Chosen.{chosen}
use Rattle.phase.specs.Laws.{phase_storable}
use Rattle.phase.specs.Phase.{phase_fits}
use Rattle.phase.specs.Stage.{is_in}
use Rattle.phase.specs.Stage as Stage
use Rattle.phase.specs.declared.Phase.{Phase}
use Rattle.record.specs.Laws.{line_storable}
use Rattle.record.specs.Line.{Line}
use Rattle.record.specs.Sound.{children_sound, holds_sound, in_range, chosen_free, line_sound}

-- the data of a phase are in their ranges and fit their octets
pub record PhaseValid (p : Phase) : Type 0 where
  pub fits : phase_fits p ≡ true
  pub storable : phase_storable p ≡ true

-- the children of a line in a phase
pub record ChildrenValid (p : Phase) (cs : List Child) : Type 0 where
  pub fit : all_of child_fits cs ≡ true
  pub storable : all_of child_storable cs ≡ true
  pub few : leb (length cs) 8 ≡ true
  pub on_live : is_in Stage.live p || leb (length cs) 0 ≡ true
  pub differ : spis_differ cs ≡ true

-- the holds of a line in a phase at its time
pub record HoldsValid (time : ℕ) (p : Phase) (hs : List Hold) : Type 0 where
  pub few : leb (length hs) 8 ≡ true
  pub room : is_in Stage.idle p || leb (length hs) 7 ≡ true
  pub differ : different (map address_in hs) ≡ true
  pub free : chosen_free (chosen p) (map address_in hs) ≡ true
  pub late : all_of (ends_after time) hs ≡ true
  pub storable : all_of hold_storable hs ≡ true

-- a line whose parts are all of them valid
pub record Valid (x : Line) : Type 0 where
  pub small : ltb x.time (256 ^ 4) ≡ true
  pub phase_valid : PhaseValid x.phase
  pub children_valid : ChildrenValid x.phase x.children
  pub holds_valid : HoldsValid x.time x.phase x.holds

-- the tests of a line pass exactly where it is valid
module _ (x : Line) where
  module _ (s : line_sound x ≡ true) (h : line_storable x ≡ true) where
    phase_of : PhaseValid x.phase
    unfolding line_sound line_storable in_range
    phase_of = record { fits = search (and_left, and_right); storable = search (and_left, and_right) }

    children_of : ChildrenValid x.phase x.children
    unfolding line_sound line_storable in_range children_sound
    children_of = record {
      fit = search (and_left, and_right);
      storable = search (and_left, and_right);
      few = search (and_left, and_right);
      on_live = search (and_left, and_right);
      differ = search (and_left, and_right);
    }

    holds_of : HoldsValid x.time x.phase x.holds
    unfolding line_sound line_storable holds_sound
    holds_of = record {
      few = search (and_left, and_right);
      room = search (and_left, and_right);
      differ = search (and_left, and_right);
      free = search (and_left, and_right);
      late = search (and_left, and_right);
      storable = search (and_left, and_right);
    }

    pub valid_of : Valid x
    unfolding line_storable
    valid_of = record { small = search (and_left, and_right); phase_valid = phase_of; children_valid = children_of; holds_valid = holds_of }

  module _ (v : Valid x) where
    abbrev P : PhaseValid x.phase
    P = v.phase_valid

    abbrev C : ChildrenValid x.phase x.children
    C = v.children_valid

    abbrev H : HoldsValid x.time x.phase x.holds
    H = v.holds_valid

    pub sound_of : line_sound x ≡ true
    unfolding line_sound in_range children_sound holds_sound
    sound_of = rw (P.fits, C.fit, C.few, C.on_live, C.differ, H.few, H.room, H.differ, H.free, H.late)

    pub held_of : line_storable x ≡ true
    unfolding line_storable
    held_of = rw (v.small, P.storable, H.storable, C.storable)
