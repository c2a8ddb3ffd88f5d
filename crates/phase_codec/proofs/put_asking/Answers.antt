-- `phase_codec::put_asking` meets its contract: three writes, each where the one before it ends.
use Rattle.phase.proofs.Writes.{asking_wrote}
use Rattle.phase_codec.proofs.put_asking.Goals as goal

pub returns : goal.returns
returns c =
    let a = c.args in
    asking_wrote a.number a.facts c.put.ensures c.put_facts.ensures c.put-2.ensures
