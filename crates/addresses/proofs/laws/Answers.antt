-- `addresses::laws` meets its contract: each law is proved below proofs/.
use Rattle.address.proofs.Numbers.{same_self}
use Rattle.addresses.proofs.RoundTrip.{read_back, same_equal, storable, write_back}
use Rattle.addresses.proofs.Widths.{address_wide}
use Rattle.addresses.proofs.laws.Goals as goal

pub returns : goal.returns
returns c = record {
  octet_count = address_wide;
  read_back = read_back;
  write_back = write_back;
  storable = storable;
  same_equal = same_equal;
  equal_same = same_self;
}
