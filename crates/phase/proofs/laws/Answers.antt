-- `phase::laws` meets its contract: each law is proved below proofs/.
use Rattle.phase.proofs.Reading.{storable, read_back}
use Rattle.phase.proofs.Standings.{restored_bare}
use Rattle.phase.proofs.Writing.{write_back}
use Rattle.phase.proofs.Writes.{phase_length_lem}
use Rattle.phase.proofs.laws.Goals as goal

pub returns : goal.returns
returns c = record { octet_count = phase_length_lem; read_back = read_back; write_back = write_back; storable = storable; restored_bare = restored_bare }
