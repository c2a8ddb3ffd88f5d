-- `record_reader::read_unheld` meets its contract: where the phase stands and the children are read at their places.
use mathlib.Core.Path.{ap, ap₂, ◌∙◌}
use Rattle.children.specs.Children.{children_from}
use Rattle.record.specs.Changes.{unheld}
use Rattle.record.specs.Octets.{children_place, line_from}
use Rattle.record_reader.proofs.read_unheld.Goals as goal

pub returns : goal.returns
unfolding line_from
returns c =
    let l = c.args.b.now in
    c.unheld.ensures ∙ ap₂ unheld c.read_bare.ensures (c.read_children-children.ensures ∙ ap (children_from l children_place) c.get-n.ensures.0)
