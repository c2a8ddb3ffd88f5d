-- `addresses::is_address` meets its contract: an address of version 6 has no octets behind it.
use Rattle.addresses.specs.Addresses.{version_from}
use Rattle.addresses.proofs.Versions.{version_6}
use Rattle.addresses.proofs.is_address.Goals as goal

pub returns-in-6 : goal.returns-in-6
unfolding version_from
returns-in-6 c = version_6 _ _ c.get.result c.get.ensures.0 c.in-6.is
