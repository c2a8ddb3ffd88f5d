-- `record_writer::put_held` meets its contract: the count is written, the room cleared, and the holds written to it.
use mathlib.Core.Path.{refl}
use native.Mathlib.Omega.{arith}
use Rattle.octets.proofs.Patches.{part_cleared}
use Rattle.record.proofs.Writing.{holds_changed, counted_in, still_room}
use Rattle.record_writer.proofs.put_held.Goals as goal

pub returns : goal.returns
returns c =
    let a = c.args in
    λ pair x few_holds few_children is. holds_changed pair x a.holds.now few_holds c.requires.1
    (counted_in is refl c.put.ensures)
    (part_cleared _ 27 176 (still_room 203 c.put.ensures (omega (arith, c.requires.0))) _ c.zero.ensures)
    c.put_holds.ensures
