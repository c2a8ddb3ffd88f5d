-- `gateway::laws` meets its contract: each law is proved below proofs/.
use Rattle.gateway.proofs.Choices.{chosen_first, nothing_permitted}
use Rattle.gateway.proofs.laws.Goals as goal

pub returns : goal.returns
returns c = record { chosen_first = chosen_first; nothing_permitted = nothing_permitted }
