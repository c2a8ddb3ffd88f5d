-- `response::laws` meets its contract: each law is proved below proofs/.
use Rattle.response.proofs.Round.{write_read, read_write}
use Rattle.response.proofs.Writing.{accepted, response_fits}
use Rattle.response.proofs.laws.Goals as goal

pub returns : goal.returns
returns c = record {
  write_read = λ i p n room e. write_read i p n room (accepted i p n room e);
  read_write = read_write;
  response_fits = response_fits;
}
