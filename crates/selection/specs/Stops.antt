-- The claim `StopsExactly`: selection stops exactly where the step that it reached has nothing that is permitted, and with that step's number.
use Rattle.std.specs.Prelude.{ℕ, true, false, List, [], ◌∷◌, ◌≡◌, Option, None, Some}
use Rattle.octets.specs.Row.{only}
use Rattle.network.specs.Plmn.{among}
use Rattle.network.specs.declared.Plmn.{Plmn}
use Rattle.address.specs.Address.{stands, permitted}
use Rattle.address.specs.declared.Address.{Address}
use Rattle.entry.specs.declared.field.Preferred.{Preferred}
use Rattle.config.specs.Settings.{Settings}
use Rattle.config.specs.declared.Node.{Node}
use Rattle.preference.specs.Preference.{unbarred, eligible}
use Rattle.place.specs.declared.Place.{Place}
use Rattle.place.specs.declared.Place.TheVariants.{Unknown, Home, Abroad}
use Rattle.gateway.specs.Gateway.{choose}
use Rattle.gateway.specs.declared.Found.{Found}
use Rattle.gateway.specs.declared.Found.TheVariants.{Chosen, Nothing}
use Rattle.selection.specs.Selection.{start, country}
use Rattle.selection.specs.Stop.{stop_number}
use Rattle.selection.specs.declared.Choice.{Choice}
use Rattle.selection.specs.declared.Choice.TheVariants.{Stop, Country, Text, Network}
use Rattle.place.specs.declared.Facts.{Facts}

-- the step that a call reaches: a name is asked, or it may stop at one of four
pub data Reached : Type 0 where
  asks : Reached
  -- S1: the place is unknown
  lost : Reached
  -- S4: the country query got no reply
  unanswered : Reached
  -- S4: one or more networks are listed
  networks : List Plmn → Reached
  -- S5: a list of addresses is gone through
  addresses : List Address → Reached

-- S2 asks a name unless `node` gives an address
unfoldable pub home_reached : Option Node → Reached
home_reached None = asks
home_reached (Some (Node.Name at n)) = asks
home_reached (Some (Node.Address a)) = addresses (a ∷ [])

unfoldable pub start_reached : Settings → Place → Reached
start_reached s Unknown = lost
start_reached s Home = home_reached s.node
start_reached s (Abroad mcc) = asks

-- where none is listed, a network with a `plmn` record is asked for, and S2 is the last resort
unfoldable pub last_reached : List Preferred → Option Node → Reached
last_reached (x ∷ xs) n = asks
last_reached [] n = home_reached n

unfoldable pub country_reached : Settings → Place → Option (List Plmn) → Reached
country_reached s place None = unanswered
country_reached s place (Some []) = last_reached (only (eligible s [] place) s.plmns) s.node
country_reached s place (Some (p ∷ ps)) = networks (p ∷ ps)

-- a step has nothing that is permitted, and n is its number
module _ (s : Settings) (version : ℕ) (held : List Address) where
  abbrev pub Ends : Reached → ℕ → Type 0
  Ends asks n = ⊥
  Ends lost n = n ≡ 1
  Ends unanswered n = n ≡ 2
  Ends (networks ps) n = (n ≡ 3) × ((p : Plmn) → among p ps ≡ true → unbarred s p ≡ false)
  Ends (addresses xs) n = (n ≡ 4) × ((a : Address) → stands a xs ≡ true → permitted version held a ≡ false)

-- the number with which a call stops, an address being treated as an answer list of one
unfoldable pub stop_found : Found → Option ℕ
stop_found (Chosen a k) = None
stop_found (Nothing k) = Some 4

unfoldable pub stop_of : ℕ → List Address → Choice → Option ℕ
stop_of version held (Stop at) = Some (stop_number at)
stop_of version held (Country mcc) = None
stop_of version held (Text at n) = None
stop_of version held (Network p) = None
stop_of version held (Choice.Address a) = stop_found (choose version held (a ∷ []))

-- a call stops with a number exactly where its step ends with it
pub record Exactly (ends : ℕ → Type 0) (stop : Option ℕ) : Type 0 where
  pub only_there : (n : ℕ) → stop ≡ Some n → ends n
  pub always_there : (n : ℕ) → ends n → stop ≡ Some n

pub record StopsExactly : Type 0 where
  pub at_start : (s : Settings) (f : Facts) (held : List Address)
      → Exactly (Ends s f.version held (start_reached s f.place)) (stop_of f.version held (start s f))
  pub at_country : (s : Settings) (f : Facts) (held : List Address) (answer : Option (List Plmn))
      → Exactly (Ends s f.version held (country_reached s f.place answer)) (stop_of f.version held (country s f answer))
  pub at_address : (s : Settings) (version : ℕ) (held xs : List Address)
      → Exactly (Ends s version held (addresses xs)) (stop_found (choose version held xs))
