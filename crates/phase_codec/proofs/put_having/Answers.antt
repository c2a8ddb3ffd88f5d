-- `phase_codec::put_having` meets its contract: three writes, each where the one before it ends.
use Rattle.phase.proofs.Writes.{having_wrote}
use Rattle.phase_codec.proofs.put_having.Goals as goal

pub returns : goal.returns
returns c =
    let a = c.args in
    having_wrote a.number a.address c.put.ensures c.put_address.ensures c.put-2.ensures
