-- `ike::give_up` meets its contract: a late call and a line that is idle or live are refused, and every other line is idle after it.
use mathlib.Core.Logic.{⊎_elim}
use mathlib.Core.Bool.{true}
use mathlib.Core.Path.{◌≡◌, refl}
use borrow.Author.Rules.{rules}
use Rattle.octets.specs.Part.{padded, zeros}
use Rattle.phase.specs.Stage.{is_in}
use Rattle.phase.specs.Stage as Stage
use Rattle.phase.proofs.Stages.{other_stage, tags}
use Rattle.record.specs.Line.{line_of}
use Rattle.rules.specs.Answer.{event_room}
use Rattle.rules.specs.Call.{give_up}
use Rattle.rules.specs.Life.{goes, outcome}
use Rattle.rules.specs.Refusals.{has_no_room, is_allowed, is_held_full, is_malformed, is_out_of_range, is_spi_taken}
use Rattle.step.proofs.Shown.{done, late, untimely}
use Rattle.ike.proofs.give_up.Goals as goal

pub returns-in_err-found : goal.returns-in_err-found
unfolding event_room zeros
returns-in_err-found c = late give_up _ _ c.from_residual.ensures c.in_err-found.ensures

pub returns-in-Idle : goal.returns-in-Idle
unfolding event_room is_allowed is_in is_malformed is_out_of_range line_of zeros
returns-in-Idle c = untimely give_up c.in_ok-found.ensures refl refl (⊎_elim (λ e. rw e refl) (λ e. rw e.1 refl) c.in-Idle.is)

pub returns-in_default : goal.returns-in_default
unfolding event_room goes has_no_room is_allowed is_held_full is_malformed is_out_of_range is_spi_taken line_of outcome padded zeros
returns-in_default c =
    let phase = c.in_ok-found.found.phase in
    let allowed : is_allowed give_up (line_of c.in_ok-found.found) ≡ true = rw (other_stage Stage.idle phase tags (search rules), other_stage Stage.live phase tags (search rules)) refl in
    done give_up c.in_ok-found.ensures refl refl allowed refl refl refl refl c.in_phase.ensures refl
