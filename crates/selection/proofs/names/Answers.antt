-- `selection::names` meets its contract: both definitions build the same name.
use Rattle.std.proofs.Common.{refl}
use Rattle.selection.specs.Query.{asked, built}
use Rattle.selection.proofs.names.Goals as goal

pub returns : goal.returns
unfolding asked built
returns c = record { country = λ text mcc. refl; network = λ text p. refl }
