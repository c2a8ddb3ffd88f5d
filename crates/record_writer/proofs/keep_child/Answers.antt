-- `record_writer::keep_child` meets its contract: the line goes on, and the child is written behind the others.
use Rattle.record.proofs.Adding.{child_kept}
use Rattle.record_writer.proofs.keep_child.Goals as goal

pub returns : goal.returns
returns c =
    let a = c.args in
    child_kept a.b.now a.time a.child c.requires.1 c.requires.2 c.keep_standing.ensures c.add_child.ensures
