-- `query::nothing` meets its contract: a buffer of zeros holds no name.
use Rattle.query.proofs.Names.{no_name_lem}
use Rattle.query.proofs.nothing.Goals as goal

pub returns : goal.returns
returns c = no_name_lem _ _ c.zero.ensures
