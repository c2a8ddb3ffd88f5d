-- What holds of the picks among networks, for every configuration and every list; the function `laws` promises it.
use Rattle.std.specs.Prelude.{ℕ, ◌≤◌, ◌<◌, Bool, true, false, not, List, [], ◌≡◌, None, Some, slice_get}
use Rattle.octets.specs.Row.{FirstAt, NonePasses}
use Rattle.network.specs.Plmn.{among}
use Rattle.network.specs.declared.Plmn.{Plmn}
use Rattle.entry.specs.declared.field.Preferred.{Preferred}
use Rattle.config.specs.Settings.{Settings}
use Rattle.place.specs.declared.Place.{Place}
use Rattle.place.specs.declared.Place.TheVariants.{Abroad}
use Rattle.preference.specs.Preference.{offered, ranked, unranked}

-- a network that is listed or, where none is listed, has the visited MCC of a place abroad
pub data OnOffer (ps : List Plmn) (place : Place) (p : Plmn) : Type 0 where
  listed : among p ps ≡ true → OnOffer ps place p
  visiting : ps ≡ [] → place ≡ Abroad p.mcc → OnOffer ps place p

-- a `plmn` record that may be picked: its network is on offer and not on the forbidden list
pub record Candidate (s : Settings) (ps : List Plmn) (place : Place) (x : Preferred) : Type 0 where
  pub on_offer : OnOffer ps place x.plmn
  pub not_barred : among x.plmn s.bars ≡ false

-- of the records that may be picked, x at i has the best priority, 0 being the best, and is the earliest on a tie
pub record BestAt (May : Preferred → Type 0) (xs : List Preferred) (i : ℕ) (x : Preferred) : Type 0 where
  pub there : slice_get xs i ≡ Some x
  pub picked : May x
  pub none_better : (j : ℕ) (y : Preferred) → slice_get xs j ≡ Some y → May y → x.priority ≤ y.priority
  pub earliest : (j : ℕ) (y : Preferred) → j < i → slice_get xs j ≡ Some y → May y → x.priority < y.priority

-- a network is not on the forbidden list
abbrev pub not_forbidden : Settings → Plmn → Bool
not_forbidden s p = not (among p s.bars)

pub record Laws : Type 0 where
  -- a network is offered exactly where it is listed or, where none is listed, has the visited MCC
  pub offered_only : (ps : List Plmn) (place : Place) (p : Plmn) → offered ps place p ≡ true → OnOffer ps place p
  pub offered_always : (ps : List Plmn) (place : Place) (p : Plmn) → OnOffer ps place p → offered ps place p ≡ true
  -- the network of best priority is that of the best record that may be picked, and there is none exactly where no record may be
  pub ranked_exactly : (s : Settings) (ps : List Plmn) (place : Place) (p : Plmn) → ranked s ps place ≡ Some p
      → (i : ℕ) × (x : Preferred) × (x.plmn ≡ p) × BestAt (Candidate s ps place) s.plmns i x
  pub ranked_none : (s : Settings) (ps : List Plmn) (place : Place) → ranked s ps place ≡ None
      → (j : ℕ) (y : Preferred) → slice_get s.plmns j ≡ Some y → Candidate s ps place y → ⊥
  -- the pick where no priority decides is the first network of the list that is not barred, and there is none exactly where all are
  pub unranked_exactly : (s : Settings) (ps : List Plmn) (p : Plmn) → unranked s ps ≡ Some p → (i : ℕ) × FirstAt (not_forbidden s) ps i p
  pub unranked_none : (s : Settings) (ps : List Plmn) → unranked s ps ≡ None → NonePasses (not_forbidden s) ps
