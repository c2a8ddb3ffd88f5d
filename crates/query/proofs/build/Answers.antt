-- `query::build` meets its contract: the choice picks the name.
use Rattle.selection.specs.Query.{built}
use Rattle.query.proofs.Names.{none_built}
use Rattle.query.proofs.build.Goals as goal

pub returns-in-Country : goal.returns-in-Country
unfolding built
returns-in-Country c = rw c.in-Country.is c.visited_name.ensures

pub returns-in-Network : goal.returns-in-Network
unfolding built
returns-in-Network c = rw c.in-Network.is c.operator_name.ensures

pub returns-in_default : goal.returns-in_default
returns-in_default c = rw (none_built _ c.in_default.not-Country c.in_default.not-Network) c.nothing.ensures
