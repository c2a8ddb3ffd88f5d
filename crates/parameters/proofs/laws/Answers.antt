-- `parameters::laws` meets its contract: each law is proved below proofs/.
use Rattle.parameters.proofs.Exact.{whole_lies, written_back}
use Rattle.parameters.proofs.Onward.{reads_on}
use Rattle.parameters.proofs.laws.Goals as goal

pub returns : goal.returns
returns c = record { reads_on = reads_on; whole_lies = whole_lies; written_back = written_back }
