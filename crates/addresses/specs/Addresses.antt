-- An address in octets: its version, its number in as many octets as the version has, and zeros up to the widest.
use Rattle.std.specs.Prelude.{ℕ, ◌+◌, ◌-◌, Bool, ◌&&◌, List, ◌++◌}
use Rattle.octets.specs.Digits.{be, field}
use Rattle.octets.specs.Part.{zeros, zeros_at}
use Rattle.address.specs.Address.{address_of, is_version, number_of, version_of, width_of}
use Rattle.address.specs.declared.Address.{Address}

-- the octets of the widest number, and of an address
abbrev pub most_width : ℕ
most_width = 16

abbrev pub address_length : ℕ
address_length = 1 + most_width

unfoldable pub address_octets : Address → List ℕ
address_octets a = let n = width_of (version_of a) in be 1 (version_of a) ++ be n (number_of a) ++ zeros (most_width - n)

-- the version at a place
unfoldable pub version_from : List ℕ → ℕ → ℕ
version_from l at = field l at 1

-- the address at a place
unfoldable pub address_from : List ℕ → ℕ → Address
address_from l at = let v = version_from l at in address_of v (field l (at + 1) (width_of v))

-- an address stands at a place: a version that there is, and zeros behind the number
unfoldable pub is_address : List ℕ → ℕ → Bool
is_address l at = let v = version_from l at in is_version v && zeros_at l (at + (1 + width_of v)) (most_width - width_of v)
