-- `choosing::is_home_abroad` meets its contract: the place picks the case.
use mathlib.Core.Bool.{false}
use mathlib.Core.Path.{◌≡◌, refl, sym}
use Rattle.config.specs.Settings.{Settings, settings_of}
use Rattle.place.specs.declared.Place.{Place}
use Rattle.place.specs.declared.Place.TheVariants.{Unknown, Home, Abroad}
use Rattle.selection.specs.Selection.{home_abroad}
use Rattle.choosing.proofs.is_home_abroad.Goals as goal

-- no other place is abroad
elsewhere : (s : Settings) (place : Place) → ((mcc : _) → place ≡ Abroad mcc → ⊥) → false ≡ home_abroad s place
unfolding home_abroad
elsewhere s Unknown other = refl
elsewhere s Home other = refl
elsewhere s (Abroad mcc) other = absurd (other mcc refl)

pub returns-in-Abroad : goal.returns-in-Abroad
unfolding home_abroad settings_of
returns-in-Abroad c = sym (rw c.in-Abroad.is)

pub returns-in_default : goal.returns-in_default
returns-in_default c = elsewhere _ _ c.in_default.not-Abroad
