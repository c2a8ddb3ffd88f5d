-- `records::open_at` meets its contract: the octets of one record are those of a pair that was just opened.
use Prim.Native.Nat.{◌*◌}
use Rattle.octets.proofs.Patches.{part_stored}
use Rattle.record.specs.Octets.{record_length}
use Rattle.records.proofs.Within.{lent_whole}
use Rattle.records.proofs.open_at.Goals as goal

pub put_fresh-requires : goal.put_fresh-requires
put_fresh-requires c = lent_whole _ _ c.requires

pub returns : goal.returns
returns c =
    let a = c.args in
    let put = c.put_fresh in
    part_stored a.table.now (record_length * a.i) record_length c.requires _ _ put.ensures put.auto.b
