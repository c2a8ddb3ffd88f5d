-- `record_reader::unheld` meets its contract: no holds stand in an empty list.
use mathlib.Core.List.{List}
use mathlib.Core.Path.{ap}
use Rattle.address.specs.declared.Hold.{Hold}
use Rattle.children.specs.Listed.{children_of}
use Rattle.record.specs.Changes.{unheld}
use Rattle.record.specs.Line.{Line, line_of}
use Rattle.record_reader.proofs.unheld.Goals as goal

pub returns : goal.returns
unfolding line_of unheld
returns c = ap {B = Line} (λ (hs : List Hold). record { time = 0; phase = c.args.phase; holds = hs; children = children_of c.args.children }) c.empty.ensures.items
