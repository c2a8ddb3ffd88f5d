-- `Address::version` meets its contract: the variant gives the number.
use mathlib.Core.Path.{sym, ap}
use Rattle.address.specs.Address.{version_of}
use Rattle.address.proofs.Address.version.Goals as goal

pub returns-in-V4 : goal.returns-in-V4
unfolding version_of
returns-in-V4 c = sym (ap version_of c.in-V4.is)

pub returns-in-V6 : goal.returns-in-V6
unfolding version_of
returns-in-V6 c = sym (ap version_of c.in-V6.is)
