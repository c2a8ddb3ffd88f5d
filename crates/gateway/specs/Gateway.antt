-- S5: of the addresses that an answer lists, the first that is permitted.
use Rattle.std.specs.Prelude.{ℕ, List, [], ◌∷◌, drop}
use Rattle.octets.specs.Row.{place}
use Rattle.address.specs.Address.{high, low, permitted, version_of}
use Rattle.address.specs.declared.Address.{Address}
use Rattle.gateway.specs.declared.Found.{Found}
use Rattle.gateway.specs.declared.Found.TheVariants.{Chosen, Nothing}

-- the address at a place, with the count of those before it
unfoldable pub found_at : ℕ → List Address → Found
found_at k [] = Nothing k
found_at k (a ∷ rest) = Chosen a k

-- the place of the first address of the local IP version that is not on hold, or all addresses passed over
unfoldable pub choose : ℕ → List Address → List Address → Found
choose version held l =
    let k = place (permitted version held) l in
    found_at k (drop k l)

-- what S5 finds in numbers: where it stops, how many addresses were passed over, and the chosen address; a stop in S5 is 4
unfoldable pub found_numbers : Found → List ℕ
found_numbers (Chosen a k) = 0 ∷ k ∷ version_of a ∷ high a ∷ low a ∷ []
found_numbers (Nothing k) = 4 ∷ k ∷ 0 ∷ 0 ∷ 0 ∷ []
