-- How many octets an address has.
use Prim.Native.Nat.{◌+◌, ◌-◌}
use mathlib.Core.List.{◌++◌}
use mathlib.Core.Path.{◌≡◌}
use native.Mathlib.Omega.{arith}
use lib.ListN.{length}
use Rattle.octets.specs.Digits.{be}
use Rattle.octets.specs.Part.{zeros}
use Rattle.octets.proofs.Digits.{length_digits}
use Rattle.octets.proofs.Parts.{both, length_zeros}
use Rattle.address.specs.Address.{number_of, version_of, width_of}
use Rattle.address.specs.declared.Address.{Address}
use Rattle.address.proofs.Numbers.{width_most}
use Rattle.addresses.specs.Addresses.{address_octets}

-- the version and the number
pub front_wide : (a : Address) → length (be 1 (version_of a) ++ be (width_of (version_of a)) (number_of a)) ≡ 1 + width_of (version_of a)
unfolding be
front_wide a =
    let n = width_of (version_of a) in
    both (be 1 (version_of a)) (be n (number_of a)) 1 n (length_digits 256 1 (version_of a)) (length_digits 256 n (number_of a))

pub address_wide : (a : Address) → length (address_octets a) ≡ 17
unfolding address_octets
address_wide a =
    let v = version_of a in
    let n = width_of v in
    let all = both (be 1 v ++ be n (number_of a)) (zeros (16 - n)) (1 + n) (16 - n) (front_wide a) (length_zeros (16 - n)) in
    omega (arith, all, width_most v)
