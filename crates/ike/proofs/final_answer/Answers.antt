-- `ike::final_answer` meets its contract: a late call, a number that is no answer and every phase but sure are refused; the line goes live or idle from there.
use mathlib.Core.Path.{refl, ap}
use borrow.Author.Rules.{rules}
use borrow.Author.Tests.{eq-eqb, ne_eqb}
use Rattle.octets.specs.Part.{padded, zeros}
use Rattle.phase.specs.Chosen.{chosen}
use Rattle.phase.specs.Stage as Stage
use Rattle.phase.proofs.Stages.{other_stage, same_stage, tags}
use Rattle.record.specs.Changes.{in_phase}
use Rattle.record.specs.Line.{line_of}
use Rattle.rules.specs.Answer.{event_room}
use Rattle.rules.specs.Call.{final}
use Rattle.rules.specs.Life.{finished, goes, keeps, onward, outcome}
use Rattle.rules.specs.Refusals.{has_no_room, is_allowed, is_held_full, is_malformed, is_out_of_range, is_spi_taken}
use Rattle.step.proofs.Shown.{done, late, unfit, untimely}
use Rattle.ike.proofs.final_answer.Goals as goal

pub returns-in_err-found : goal.returns-in_err-found
unfolding event_room zeros
returns-in_err-found c = late (final c.args.good) _ _ c.from_residual.ensures c.in_err-found.ensures

pub returns-then-good-gt1 : goal.returns-then-good-gt1
unfolding event_room is_out_of_range zeros
returns-then-good-gt1 c = unfit (final c.args.good) c.in_ok-found.ensures (search rules)

pub returns-in_default : goal.returns-in_default
unfolding event_room is_allowed is_malformed is_out_of_range line_of zeros
returns-in_default c = untimely (final c.args.good) c.in_ok-found.ensures (search rules) refl (other_stage Stage.sure _ tags (search rules))

pub returns-then-good-eq1 : goal.returns-then-good-eq1
unfolding chosen event_room finished goes has_no_room in_phase is_allowed is_held_full is_malformed is_out_of_range is_spi_taken keeps line_of onward outcome padded zeros
returns-then-good-eq1 c =
    let good = ap (finished (line_of c.in_ok-found.found)) (eq-eqb c.args.good 1 c.if-good-eq1.true) in
    done (final c.args.good) c.in_ok-found.ensures (search rules) refl (same_stage c.in-Sure.is) refl refl refl good (rw c.in-Sure.is c.in_phase.ensures) refl

pub returns : goal.returns
unfolding event_room finished goes has_no_room is_allowed is_held_full is_malformed is_out_of_range is_spi_taken line_of outcome padded zeros
returns c =
    let bad = ap (finished (line_of c.in_ok-found.found)) (ne_eqb c.args.good 1 c.if-good-eq1.false) in
    done (final c.args.good) c.in_ok-found.ensures (search rules) refl (same_stage c.in-Sure.is) refl refl refl bad c.in_phase-2.ensures refl
