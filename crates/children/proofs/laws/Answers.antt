-- `children::laws` meets its contract: each law is proved below proofs/.
use Rattle.children.proofs.RoundTrip.{storable, octet_count, read_back, write_back}
use Rattle.children.proofs.laws.Goals as goal

pub returns : goal.returns
returns c = record { octet_count = octet_count; read_back = read_back; write_back = write_back; storable = storable }
