-- `facts_codec::put_facts` meets its contract: three writes, each where the one before it ends.
use Rattle.phase.proofs.Writes.{facts_wrote}
use Rattle.facts_codec.proofs.put_facts.Goals as goal

pub returns : goal.returns
returns c =
    facts_wrote c.args.facts c.put_place.ensures c.put_registered.ensures c.put.ensures
