-- `record_writer::add_child` meets its contract: the child is written behind the others where there is room, and the count is one more.
use native.Mathlib.Omega.{arith}
use Rattle.record.proofs.Adding.{child_added}
use Rattle.record_writer.proofs.add_child.Goals as goal

pub returns-then-n-ge-CHILDREN : goal.returns-then-n-ge-CHILDREN
returns-then-n-ge-CHILDREN c = λ room. absurd (omega (arith, c.get-n.ensures.0, c.if-n-ge-CHILDREN.true))

pub returns : goal.returns
returns c =
    λ room. child_added _ c.get-n.ensures.0 c.if-n-ge-CHILDREN.false c.put_child.ensures c.put.ensures
