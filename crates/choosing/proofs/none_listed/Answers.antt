-- `choosing::none_listed` meets its contract: the home step is the last resort.
use mathlib.Core.Path.{ap₂, ◌∙◌}
use Rattle.selection.specs.Selection.{ask_or}
use Rattle.choosing.proofs.none_listed.Goals as goal

pub returns : goal.returns
returns c = c.ask_or.ensures ∙ ap₂ ask_or c.ranked.ensures c.at_home.ensures
