-- `record_reader::read_unlisted` meets its contract: where the phase stands is read at its place.
use mathlib.Core.Path.{ap₂, ◌∙◌}
use Rattle.record.specs.Changes.{unheld}
use Rattle.record.specs.Octets.{line_from}
use Rattle.record_reader.proofs.read_unlisted.Goals as goal

pub returns : goal.returns
unfolding line_from
returns c = c.unheld.ensures ∙ ap₂ unheld c.read_bare.ensures c.empty-none.ensures.items
