-- `tunnel::ike_delete` meets its contract: only a live line is released.
use mathlib.Core.List.{[]}
use mathlib.Core.Path.{refl, ap, ◌∙◌}
use borrow.Author.Rules.{rules}
use Rattle.octets.specs.Part.{padded, zeros}
use Rattle.phase.specs.Stage as Stage
use Rattle.phase.proofs.Stages.{other_stage, same_stage, tags}
use Rattle.record.specs.Changes.{with_children}
use Rattle.record.specs.Line.{Line, line_of}
use Rattle.rules.specs.Answer.{event_room}
use Rattle.rules.specs.Call.{ike_delete}
use Rattle.rules.specs.Life.{outcome}
use Rattle.rules.specs.Refusals.{has_no_room, is_allowed, is_held_full, is_malformed, is_out_of_range, is_spi_taken}
use Rattle.step.proofs.Shown.{done, late, untimely}
use Rattle.tunnel.proofs.ike_delete.Goals as goal

pub returns-in_err-found : goal.returns-in_err-found
unfolding event_room zeros
returns-in_err-found c = late ike_delete _ _ c.from_residual.ensures c.in_err-found.ensures

pub returns-in_default : goal.returns-in_default
unfolding event_room is_allowed is_malformed is_out_of_range line_of zeros
returns-in_default c = untimely ike_delete c.in_ok-found.ensures refl refl (other_stage Stage.live _ tags (search rules))

pub returns : goal.returns
unfolding event_room has_no_room is_allowed is_held_full is_malformed is_out_of_range is_spi_taken line_of outcome padded zeros
returns c =
    let line = c.with_children.ensures ∙ ap (λ (y : Line). with_children y []) c.in_phase.ensures in
    done ike_delete c.in_ok-found.ensures refl refl (same_stage c.in-Live.is) refl refl refl refl line refl
