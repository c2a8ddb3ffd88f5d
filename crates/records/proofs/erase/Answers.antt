-- `records::erase` meets its contract: the octets of one record are zeros afterwards.
use Prim.Native.Nat.{◌*◌}
use Rattle.record.specs.Octets.{record_length}
use Rattle.octets.proofs.Patches.{part_cleared}
use Rattle.records.proofs.erase.Goals as goal

pub returns : goal.returns
returns c =
    let a = c.args in
    let within = c.requires in
    part_cleared a.table.now (record_length * a.i) record_length within _ c.zero.ensures
