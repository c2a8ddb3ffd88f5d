-- `record_writer::put_tunnels` meets its contract: the count is written, the room cleared, and the children written to it.
use mathlib.Core.Path.{refl}
use native.Mathlib.Omega.{arith}
use Rattle.octets.proofs.Patches.{part_cleared}
use Rattle.record.proofs.Writing.{children_changed, counted_in, still_room}
use Rattle.record_writer.proofs.put_tunnels.Goals as goal

pub returns : goal.returns
returns c =
    let a = c.args in
    λ pair x few_holds few_children is. children_changed pair x a.children.now few_holds few_children c.requires.1
    (counted_in is refl c.put.ensures)
    (part_cleared _ 203 40 (still_room 243 c.put.ensures (omega (arith, c.requires.0))) _ c.zero.ensures)
    c.put_children.ensures
