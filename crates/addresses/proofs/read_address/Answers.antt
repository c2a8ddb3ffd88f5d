-- `addresses::read_address` meets its contract: a number of version 6 is read as two halves.
use Rattle.std.proofs.Common.{arith, rules}
use Rattle.addresses.specs.Addresses.{version_from}
use Rattle.addresses.proofs.Versions.{address_6}
use Rattle.addresses.proofs.read_address.Goals as goal

pub returns-in_default : goal.returns-in_default
unfolding version_from
returns-in_default c =
    let high = c.get-in_default in
    let low = c.get-in_default-2 in
    address_6 _ _ c.get.result c.get.ensures.0 (omega arith) (search rules) _ _ high.ensures.0 low.ensures.0 low.ensures.1
