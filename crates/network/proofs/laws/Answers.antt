-- `network::laws` meets its contract: each law is proved below proofs/.
use Rattle.network.proofs.Names.{operator_length, visited_length}
use Rattle.network.proofs.Plmns.{among_only, among_always}
use Rattle.network.proofs.laws.Goals as goal

pub returns : goal.returns
returns c = record { among_only = among_only; among_always = among_always; operator_length = operator_length; visited_length = visited_length }
