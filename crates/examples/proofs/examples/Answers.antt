-- `examples::examples` meets its contract: each list of examples is computed.
use Rattle.examples.specs.Computed.{evaluated_is}
use Rattle.examples.specs.FormExamples.{forms_computed}
use Rattle.examples.specs.HoldExamples.{holds_computed, kept_computed}
use Rattle.examples.specs.LayoutExamples.{layouts_computed}
use Rattle.examples.specs.LifeExamples.{actions_computed, lives_computed}
use Rattle.examples.specs.PacketExamples.{packets_computed}
use Rattle.examples.specs.PhaseExamples.{phases_computed}
use Rattle.examples.specs.RefusalExamples.{lowest_computed, ranges_computed}
use Rattle.examples.specs.SelectionExamples.{selections_computed}
use Rattle.examples.specs.SoundExamples.{sounds_computed}
use Rattle.examples.specs.Starred.{computed}
use Rattle.examples.specs.TableExamples.{tables_computed}
use Rattle.examples.proofs.examples.Goals as goal

pub returns : goal.returns
returns c = record {
  starred = computed;
  lives = lives_computed;
  actions = actions_computed;
  phases = phases_computed;
  selections = selections_computed;
  lowest = lowest_computed;
  ranges = ranges_computed;
  forms = forms_computed;
  packets = packets_computed;
  holdings = holds_computed;
  kept = kept_computed;
  sounds = sounds_computed;
  tables = tables_computed;
  layouts = layouts_computed;
  evaluated = evaluated_is;
}
