-- Addresses of both IP versions, and when one is permitted (document 01, S5).
use Rattle.std.specs.Prelude.{ℕ, ◌+◌, ◌*◌, ◌/◌, ◌%◌, ◌^◌, Bool, cond, not, ◌&&◌, ◌||◌, List, map, eqb}
use Rattle.octets.specs.Search.{any_of}
use Rattle.address.specs.declared.Address.{Address}
use Rattle.address.specs.declared.Address.TheVariants.{V4, V6}
use Rattle.address.specs.declared.Hold.{Hold}

-- an IP version is 4 or 6
unfoldable pub is_version : ℕ → Bool
is_version v = eqb v 4 || eqb v 6

-- the IP version of an address
unfoldable pub version_of : Address → ℕ
version_of (V4 x) = 4
version_of (V6 h l) = 6

-- how many octets an address of version 4 has, and one of version 6: 32 bits and 128
unfoldable pub width_of : ℕ → ℕ
width_of v = cond (eqb v 4) 4 16

-- the number that an address is, which version 6 keeps as two halves of 64 bits
unfoldable pub number_of : Address → ℕ
number_of (V4 x) = x
number_of (V6 h l) = h * 2 ^ 64 + l

-- its upper and its lower 64 bits; version 4 lies in the lower alone
unfoldable pub high : Address → ℕ
high a = number_of a / 2 ^ 64

unfoldable pub low : Address → ℕ
low a = number_of a % 2 ^ 64

-- the address of a version that is a number
unfoldable pub address_of : ℕ → ℕ → Address
address_of v x = cond (eqb v 4) (V4 x) (V6 (x / 2 ^ 64) (x % 2 ^ 64))

-- the same N3IWF means the same address: its version and its number
unfoldable pub same_address : Address → Address → Bool
same_address a b = eqb (version_of a) (version_of b) && eqb (number_of a) (number_of b)

-- an address stands in a list
unfoldable pub stands : Address → List Address → Bool
stands a bs = any_of (same_address a) bs

-- the address of a hold
unfoldable pub address_in : Hold → Address
address_in h = h.address

-- the addresses on hold
abbrev pub held_addresses : List Hold → List Address
held_addresses hs = map address_in hs

-- how many holds a line has at most
abbrev pub most_holds : ℕ
most_holds = 8

-- an address of the local IP version that is not on hold
unfoldable pub permitted : ℕ → List Address → Address → Bool
permitted version held a = eqb (version_of a) version && not (stands a held)
