-- `records::pair_at` meets its contract: the pair is the first octet.
use Rattle.table.specs.Table.{pair_at}
use Rattle.records.proofs.pair_at.Goals as goal

pub returns : goal.returns
unfolding pair_at
returns c = c.get.ensures.0
