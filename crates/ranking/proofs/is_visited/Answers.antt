-- `ranking::is_visited` meets its contract: the place picks the case.
use mathlib.Core.Bool.{false}
use mathlib.Core.Path.{◌≡◌, refl, sym}
use Rattle.network.specs.declared.Plmn.{Plmn}
use Rattle.place.specs.declared.Place.{Place}
use Rattle.place.specs.declared.Place.TheVariants.{Unknown, Home, Abroad}
use Rattle.preference.specs.Preference.{visited}
use Rattle.ranking.proofs.is_visited.Goals as goal

-- no other place has a visited MCC
elsewhere : (place : Place) (p : Plmn) → ((mcc : _) → place ≡ Abroad mcc → ⊥) → false ≡ visited place p
unfolding visited
elsewhere Unknown p other = refl
elsewhere Home p other = refl
elsewhere (Abroad mcc) p other = absurd (other mcc refl)

pub returns-in-Abroad : goal.returns-in-Abroad
unfolding visited
returns-in-Abroad c = sym (rw c.in-Abroad.is)

pub returns-in_default : goal.returns-in_default
returns-in_default c = elsewhere _ _ c.in_default.not-Abroad
