-- `selection::stops` meets its contract: the claim is a law of the definitions.
use Rattle.selection.proofs.Ends.{stops_exactly}
use Rattle.selection.proofs.stops.Goals as goal

pub returns : goal.returns
returns c = stops_exactly
