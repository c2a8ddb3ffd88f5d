-- `selection::networks` meets its contract: the claim is a law of the definitions.
use Rattle.selection.proofs.Asked.{network_exactly}
use Rattle.selection.proofs.networks.Goals as goal

pub returns : goal.returns
returns c = network_exactly
