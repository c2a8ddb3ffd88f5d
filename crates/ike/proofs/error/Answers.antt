-- `ike::error` meets its contract: a late call, an error out of its range and a line that is not underway are refused; the error is handed up from there.
use mathlib.Core.Bool.{Bool}
use mathlib.Core.Path.{refl, sym, ap}
use Rattle.octets.specs.Part.{padded, zeros}
use Rattle.record.specs.Line.{line_of}
use Rattle.rules.specs.Answer.{event_room}
use Rattle.rules.specs.Call.{error}
use Rattle.rules.specs.Life.{goes, outcome}
use Rattle.rules.specs.Refusals.{has_no_room, is_allowed, is_held_full, is_malformed, is_out_of_range, is_spi_taken}
use Rattle.rules.specs.declared.Action.TheVariants.{ErrorUp}
use borrow.Author.Rules.{rules}
use Rattle.step.proofs.Shown.{done, late, unfit, untimely}
use Rattle.ike.proofs.error.Goals as goal

pub returns-in_err-found : goal.returns-in_err-found
unfolding event_room zeros
returns-in_err-found c = late (error c.args.code) _ _ c.from_residual.ensures c.in_err-found.ensures

pub returns-then-not-contains : goal.returns-then-not-contains
unfolding event_room is_out_of_range zeros
returns-then-not-contains c = unfit (error c.args.code) c.in_ok-found.ensures (search rules)

pub returns-then-not-is_underway : goal.returns-then-not-is_underway
unfolding event_room is_allowed is_malformed is_out_of_range line_of zeros
returns-then-not-is_underway c = untimely (error c.args.code) c.in_ok-found.ensures (search rules) refl (sym c.if-not-is_underway.ensures)

pub returns : goal.returns
unfolding event_room goes has_no_room is_allowed is_held_full is_malformed is_out_of_range is_spi_taken line_of outcome padded zeros
returns c =
    let action = ap (λ (b : Bool). ErrorUp b c.args.code) c.ended.ensures in
    done (error c.args.code) c.in_ok-found.ensures (search rules) refl (sym c.if-not-is_underway.ensures) refl refl refl refl c.in_phase.ensures action
