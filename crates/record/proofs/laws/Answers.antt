-- `record::laws` meets its contract: each law is proved below proofs/.
use Rattle.record.proofs.RoundTrip.{storable, octets, pair_back, read_back, sound_back, write_back}
use Rattle.record.proofs.Writing.{octet_count}
use Rattle.record.proofs.laws.Goals as goal

pub returns : goal.returns
returns c = record {
  octet_count = octet_count;
  pair_back = pair_back;
  read_back = read_back;
  sound_back = sound_back;
  write_back = write_back;
  storable = storable;
  octets = octets;
}
