-- `record_writer::keep_tunnels` meets its contract: the line is kept, and its children are written.
use Rattle.record.specs.Changes.{with_children}
use Rattle.record.proofs.Keeping.{goes_changed}
use Rattle.record_writer.proofs.keep_tunnels.Goals as goal

pub returns : goal.returns
returns c =
    let a = c.args in
    goes_changed a.b.now c.requires.1 a.time a.s (λ x. with_children x a.children.now) c.keep_standing.ensures c.put_tunnels.ensures
