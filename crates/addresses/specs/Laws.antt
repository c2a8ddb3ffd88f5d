-- Writing and reading addresses undo each other, and an address is its version and its number; the function `laws` promises it.
use Rattle.std.specs.Prelude.{ℕ, ◌+◌, ◌^◌, ◌≤◌, Bool, true, ◌&&◌, List, ◌≡◌, ltb, length}
use Rattle.octets.specs.Laws.{below}
use Rattle.octets.specs.Part.{part}
use Rattle.octets.specs.Search.{all_of}
use Rattle.address.specs.Address.{number_of, same_address, version_of, width_of}
use Rattle.address.specs.declared.Address.{Address}
use Rattle.address.specs.declared.Address.TheVariants.{V4, V6}
use Rattle.addresses.specs.Addresses.{address_from, address_length, address_octets, is_address}

-- version 6 is kept as halves of 64 bits
unfoldable pub halved : Address → Bool
halved (V4 x) = true
halved (V6 h l) = ltb l (2 ^ 64)

-- an address whose number fits its width
unfoldable pub address_storable : Address → Bool
address_storable a = ltb (number_of a) (256 ^ width_of (version_of a)) && halved a

pub record Laws : Type 0 where
  -- every address has the same count of octets
  pub octet_count : (a : Address) → length (address_octets a) ≡ address_length
  -- an address in range is read back from its octets
  pub read_back : (l : List ℕ) (at : ℕ) (a : Address) → address_storable a ≡ true → part l at address_length ≡ address_octets a
      → (address_from l at ≡ a) × (is_address l at ≡ true)
  -- an address is written back as the octets that it was read from
  pub write_back : (l : List ℕ) (at : ℕ) → all_of (below 256) l ≡ true → at + address_length ≤ length l → is_address l at ≡ true
      → part l at address_length ≡ address_octets (address_from l at)
  -- an address that is read from octets is in range
  pub storable : (l : List ℕ) (at : ℕ) → all_of (below 256) l ≡ true → at + address_length ≤ length l → address_storable (address_from l at) ≡ true
  -- addresses in range are the same exactly if they are equal
  pub same_equal : (a b : Address) → address_storable a ≡ true → address_storable b ≡ true → same_address a b ≡ true → a ≡ b
  pub equal_same : (a : Address) → same_address a a ≡ true
