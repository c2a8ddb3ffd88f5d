-- `config::places` meets its contract: the law stands below proofs/.
use Rattle.config.proofs.Ends.{name_left}
use Rattle.config.proofs.places.Goals as goal

pub returns : goal.returns
returns c = record { behind = name_left }
