-- The key of an address: a number of 64 bits, which tells most addresses apart at once.
use Rattle.std.specs.Prelude.{ℕ, ◌+◌, ◌/◌, ◌%◌, ◌^◌, List}
use Rattle.std.specs.Int.Bits.{bit_xor}
use Rattle.octets.specs.Digits.{be, field, low}
use Rattle.addresses.specs.Addresses.{most_width}

-- the number that the octets of a number of eight say, the least significant first
unfoldable pub swapped : ℕ → ℕ
swapped x = low (be 8 x)

-- the upper and the lower 64 bits of a number of 128, each swapped, put together by exclusive or
unfoldable pub folded : ℕ → ℕ
folded x = bit_xor (swapped (x / 2 ^ 64)) (swapped (x % 2 ^ 64))

-- the octets behind the version, folded: where addresses stand, different keys are of different addresses
unfoldable pub key_at : List ℕ → ℕ → ℕ
key_at l at = folded (field l (at + 1) most_width)
