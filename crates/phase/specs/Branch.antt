-- What the tests of a phase's octets answer, in the terms of `Facts` and `Phase`.
use Rattle.std.specs.Prelude.{ℕ, ◌+◌, Bool, ◌&&◌, List}
use Rattle.octets.specs.Part.{zeros_at}
use Rattle.addresses.specs.Addresses.{is_address}
use Rattle.phase.specs.Facts.{place_from, place_fits, place_written, registered_from, registered_fits, registered_written, facts_from, facts_fit, facts_written}
use Rattle.phase.specs.Phase.{is_abroad, turn_written}

-- a place and a registered PLMN that may be kept
unfoldable pub is_place : List ℕ → ℕ → Bool
is_place l at = place_written l at && place_fits (place_from l at)

unfoldable pub is_registered : List ℕ → ℕ → Bool
is_registered l at = registered_written l at && registered_fits (registered_from l at)

-- what stands behind the number of a phase: place facts, place facts abroad, an address, an address and an identifier
unfoldable pub is_asking : List ℕ → ℕ → Bool
is_asking l at = facts_written l (at + 1) && facts_fit (facts_from l (at + 1)) && zeros_at l (at + 10) 10

unfoldable pub is_country : List ℕ → ℕ → Bool
is_country l at = is_asking l at && is_abroad (place_from l (at + 1))

unfoldable pub is_having : List ℕ → ℕ → Bool
is_having l at = is_address l (at + 1) && zeros_at l (at + 18) 2

unfoldable pub is_eap : List ℕ → ℕ → Bool
is_eap l at = is_address l (at + 1) && turn_written l (at + 18)
