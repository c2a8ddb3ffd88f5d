-- `tunnel::child_deleted` meets its contract: only a live line on which the SPI stands has a child less.
use mathlib.Core.Path.{refl, ap, ◌∙◌}
use borrow.Author.Rules.{rules}
use Rattle.octets.specs.Part.{padded, zeros}
use Rattle.octets.specs.Row.{only}
use Rattle.children.specs.Children.{is_other}
use Rattle.phase.specs.Stage.{is_in}
use Rattle.phase.specs.Stage as Stage
use Rattle.phase.proofs.Stages.{other_stage, same_stage, tags}
use Rattle.record.specs.Changes.{with_children}
use Rattle.record.specs.Line.{line_of}
use Rattle.rules.specs.Answer.{event_room}
use Rattle.rules.specs.Call.{child_deleted}
use Rattle.rules.specs.Life.{outcome}
use Rattle.rules.specs.Refusals.{has_no_room, is_allowed, is_held_full, is_malformed, is_out_of_range, is_spi_taken}
use Rattle.step.proofs.Shown.{done, late, untimely}
use Rattle.tunnel.proofs.child_deleted.Goals as goal

pub returns-in_err-found : goal.returns-in_err-found
unfolding event_room zeros
returns-in_err-found c = late (child_deleted c.args.spi) _ _ c.from_residual.ensures c.in_err-found.ensures

pub returns-in_default : goal.returns-in_default
unfolding event_room is_allowed is_malformed is_out_of_range line_of zeros
returns-in_default c = untimely (child_deleted c.args.spi) c.in_ok-found.ensures refl refl (rw (other_stage Stage.live c.in_ok-found.found.phase tags (search rules)) refl)

pub returns-then-not-has_spi : goal.returns-then-not-has_spi
unfolding event_room is_allowed is_malformed is_out_of_range line_of zeros
returns-then-not-has_spi c = untimely (child_deleted c.args.spi) c.in_ok-found.ensures refl refl (search rules)

pub returns : goal.returns
unfolding event_room has_no_room is_allowed is_held_full is_malformed is_out_of_range is_spi_taken line_of outcome padded zeros
returns c =
    let line = c.with_children.ensures ∙ ap (with_children (line_of c.in_ok-found.found)) (c.without-others.ensures ∙ ap (only (is_other c.args.spi)) c.as_slice-2.ensures) in
    done (child_deleted c.args.spi) c.in_ok-found.ensures refl refl (rw (same_stage c.in-Live.is) (search rules)) refl refl refl refl line refl
