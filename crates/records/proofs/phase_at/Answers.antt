-- `records::phase_at` meets its contract: the phase lies in the record.
use Prim.Native.Nat.{ℕ}
use mathlib.Core.List.{List}
use mathlib.Core.Path.{ap, ◌∙◌}
use Rattle.phase.specs.Phase.{phase_from}
use Rattle.record.specs.Octets.{line_from, phase_place}
use Rattle.table.specs.Table.{slot}
use Rattle.records.proofs.phase_at.Goals as goal

pub returns : goal.returns
unfolding slot line_from
returns c = c.read_phase.ensures ∙ ap (λ (s : List ℕ). phase_from s phase_place) c.part.ensures.0
