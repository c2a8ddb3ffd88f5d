-- `addresses::put_address` meets its contract: three writes, each where the one before it ends.
use mathlib.Core.Path.{refl}
use borrow.Author.Rules.{rules}
use Rattle.octets.specs.Digits.{be, digits}
use Rattle.octets.specs.Part.{zeros}
use Rattle.octets.proofs.Parts.{then}
use Rattle.address.specs.Address.{number_of, version_of, width_of}
use Rattle.addresses.specs.Addresses.{address_octets}
use Rattle.addresses.proofs.Versions.{halves_wrote}
use Rattle.addresses.proofs.put_address.Goals as goal

pub returns-in-V4 : goal.returns-in-V4
unfolding address_octets version_of number_of width_of be digits zeros
returns-in-V4 c =
    rw c.in-V4.is (then (then c.put.ensures c.put-in-V4.ensures refl) c.put-in-V4-2.ensures refl)

pub returns-in-V6 : goal.returns-in-V6
unfolding be digits
returns-in-V6 c =
    rw c.in-V6.is (halves_wrote _ _ (search rules) (then (then c.put-in-V6.ensures c.put-in-V6-2.ensures refl) c.put-in-V6-3.ensures refl))
