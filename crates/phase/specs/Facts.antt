-- Place facts in 9 octets: the place and the visited MCC, whether there is a registered PLMN and which, the local IP version.
use Rattle.std.specs.Prelude.{ℕ, ◌+◌, Bool, true, false, cond, ◌&&◌, ◌||◌, List, ◌++◌, leb, eqb, Option, None, Some}
use Rattle.octets.specs.Digits.{be, field}
use Rattle.octets.specs.Part.{zeros_at}
use Rattle.network.specs.Plmn.{most_code, plmn_fits}
use Rattle.network.specs.declared.Plmn.{Plmn}
use Rattle.address.specs.Address.{is_version}
use Rattle.place.specs.declared.Facts.{Facts}
use Rattle.place.specs.declared.Place.{Place}
use Rattle.place.specs.declared.Place.TheVariants.{Unknown, Home, Abroad}

unfoldable pub place_octets : Place → List ℕ
place_octets Unknown = be 1 0 ++ be 2 0
place_octets Home = be 1 1 ++ be 2 0
place_octets (Abroad mcc) = be 1 2 ++ be 2 mcc

unfoldable pub registered_octets : Option Plmn → List ℕ
registered_octets None = be 1 0 ++ be 2 0 ++ be 2 0
registered_octets (Some p) = be 1 1 ++ be 2 p.mcc ++ be 2 p.mnc

unfoldable pub facts_octets : Facts → List ℕ
facts_octets f = place_octets f.place ++ registered_octets f.registered ++ be 1 f.version

-- the facts at a place
unfoldable pub place_from : List ℕ → ℕ → Place
place_from l at = cond (eqb (field l at 1) 1) Home (cond (eqb (field l at 1) 2) (Abroad (field l (at + 1) 2)) Unknown)

unfoldable pub registered_from : List ℕ → ℕ → Option Plmn
registered_from l at = cond (eqb (field l at 1) 1) (Some (record { mcc = field l (at + 1) 2; mnc = field l (at + 3) 2 })) None

unfoldable pub facts_from : List ℕ → ℕ → Facts
facts_from l at = record { place = place_from l at; registered = registered_from l (at + 3); version = field l (at + 8) 1 }

-- the octets that a place or a missing PLMN does not use are zero
unfoldable pub place_written : List ℕ → ℕ → Bool
place_written l at = eqb (field l at 1) 2 || leb (field l at 1) 1 && zeros_at l (at + 1) 2

unfoldable pub registered_written : List ℕ → ℕ → Bool
registered_written l at = eqb (field l at 1) 1 || eqb (field l at 1) 0 && zeros_at l (at + 1) 4

unfoldable pub facts_written : List ℕ → ℕ → Bool
facts_written l at = place_written l at && registered_written l (at + 3)

-- MCC and MNC are 0 to 999, and an unknown place is never kept
unfoldable pub place_fits : Place → Bool
place_fits Unknown = false
place_fits Home = true
place_fits (Abroad mcc) = leb mcc most_code

unfoldable pub registered_fits : Option Plmn → Bool
registered_fits None = true
registered_fits (Some p) = plmn_fits p

-- the local IP version is 4 or 6
unfoldable pub facts_fit : Facts → Bool
facts_fit f = place_fits f.place && registered_fits f.registered && is_version f.version
