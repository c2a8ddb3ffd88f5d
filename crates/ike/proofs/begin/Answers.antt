-- `ike::begin` meets its contract: a late call and every phase but chosen are refused, and IKE_SA_INIT is sent from there.
use mathlib.Core.Path.{refl}
use borrow.Author.Rules.{rules}
use Rattle.octets.specs.Part.{padded, zeros}
use Rattle.phase.specs.Chosen.{chosen}
use Rattle.phase.specs.Stage as Stage
use Rattle.phase.proofs.Stages.{other_stage, same_stage, tags}
use Rattle.record.specs.Changes.{in_phase}
use Rattle.record.specs.Line.{line_of}
use Rattle.rules.specs.Answer.{event_room}
use Rattle.rules.specs.Call.{begin}
use Rattle.rules.specs.Life.{goes, keeps, onward, outcome}
use Rattle.rules.specs.Refusals.{has_no_room, is_allowed, is_held_full, is_malformed, is_out_of_range, is_spi_taken}
use Rattle.step.proofs.Shown.{done, late, untimely}
use Rattle.ike.proofs.begin.Goals as goal

pub returns-in_err-found : goal.returns-in_err-found
unfolding event_room zeros
returns-in_err-found c = late begin _ _ c.from_residual.ensures c.in_err-found.ensures

pub returns-in_default : goal.returns-in_default
unfolding event_room is_allowed is_malformed is_out_of_range line_of zeros
returns-in_default c = untimely begin c.in_ok-found.ensures refl refl (other_stage Stage.chosen _ tags (search rules))

pub returns : goal.returns
unfolding chosen event_room goes has_no_room in_phase is_allowed is_held_full is_malformed is_out_of_range is_spi_taken keeps line_of onward outcome padded zeros
returns c = done begin c.in_ok-found.ensures refl refl (same_stage c.in-Chosen.is) refl refl refl refl (rw c.in-Chosen.is c.in_phase.ensures) refl
