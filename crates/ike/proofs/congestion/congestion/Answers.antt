-- `ike::congestion::congestion` meets its contract: a late call, a number out of its range, a network that is not authenticated and a line that is
-- not underway are refused; from there the line is idle, and the chosen address is held as long as the timer says.
use Rattle.std.specs.Prelude.{is_some}
use Prim.Native.Nat.{ℕ}
use mathlib.Core.Bool.{false, false≢true, ◌&&◌}
use mathlib.Core.Path.{◌≡◌, refl, sym, ap, ◌∙◌}
use lib.Dec.{eqb}
use borrow.Author.Rules.{rules}
use Rattle.octets.specs.Part.{padded, zeros}
use Rattle.record.specs.Line.{line_of}
use Rattle.rules.specs.Answer.{event_room}
use Rattle.rules.specs.Call.{congestion}
use Rattle.rules.specs.Life.{outcome, timer_hold}
use Rattle.rules.specs.Phases.{underway}
use Rattle.rules.specs.Refusals.{has_no_room, is_allowed, is_held_full, is_malformed, is_out_of_range, is_spi_taken}
use Rattle.rules.specs.declared.Action.TheVariants.{Released}
use Rattle.rules.proofs.Phases.{chosen_busy}
use Rattle.step.proofs.Shown.{done, late, unfit, untimely}
use Rattle.timer.specs.Timer.{timer_of}
use Rattle.ike.proofs.Holding.{has_room, released, time_stored, underway_chosen}
use Rattle.ike.proofs.congestion.congestion.Goals as goal
use Rattle.ike.proofs.congestion.congestion.Goals.{then-authenticated-ne1-via-then-authenticated-ne1, then-authenticated-ne1-via-else-authenticated-ne1+then-not-is_underway}

pub returns-in_err-found : goal.returns-in_err-found
unfolding event_room zeros
returns-in_err-found c = late (congestion _ _) _ _ c.from_residual.ensures c.in_err-found.ensures

pub returns-then-authenticated-gt1 : goal.returns-then-authenticated-gt1
unfolding event_room is_out_of_range zeros
returns-then-authenticated-gt1 c = unfit (congestion _ _) c.in_ok-found.ensures (search rules)

pub returns-then-authenticated-ne1 : goal.returns-then-authenticated-ne1
unfolding event_room is_allowed is_malformed is_out_of_range line_of zeros
returns-then-authenticated-ne1 c =
    let other : eqb c.args.authenticated 1 && underway c.in_ok-found.found.phase ≡ false =
    elim c.then-authenticated-ne1.branch [
      | then-authenticated-ne1-via-then-authenticated-ne1 w ↦ search rules
      | then-authenticated-ne1-via-else-authenticated-ne1+then-not-is_underway w ↦ search rules
    ] in
    untimely (congestion _ _) c.in_ok-found.ensures (search rules) refl other

pub returns-in_default : goal.returns-in_default
returns-in_default c =
    absurd (false≢true (ap is_some (sym c.in_default.is ∙ c.chosen.ensures) ∙ underway_chosen _ (sym c.if-not-is_underway.ensures)))

pub held_until-held-requires : goal.held_until-held-requires
unfolding line_of
held_until-held-requires c = has_room c.in_ok-found.ensures c.requires (chosen_busy _ _ (sym c.chosen.ensures ∙ c.in-Some.is))

pub returns : goal.returns
unfolding event_room has_no_room is_allowed is_held_full is_malformed is_out_of_range is_spi_taken line_of outcome padded zeros
returns c =
    let set = c.hold_end.ensures c.in-Some.a ∙ ap (λ (n : ℕ). timer_hold n (timer_of c.args.timer) c.in-Some.a) (time_stored c.in_ok-found.ensures) in
    let line = c.in_phase.ensures ∙ released _ _ _ _ _ (sym c.chosen.ensures ∙ c.in-Some.is) c.held_until-held.ensures set in
    done (congestion c.args.authenticated c.args.timer) c.in_ok-found.ensures (search rules) refl (search rules) refl refl refl refl line (ap Released c.ended.ensures)
