-- `session::reply` meets its contract: the tests stand in the order of their numbers, and what is owed is answered.
use Rattle.std.specs.Prelude.{Some}
use mathlib.Core.Bool.{true, ◌||◌}
use mathlib.Core.Logic.{⊎_elim}
use mathlib.Core.Path.{◌≡◌, refl, sym}
use borrow.Author.Rules.{rules}
use Rattle.phase.specs.Stage as Stage
use Rattle.phase.proofs.Stages.{other_stage, tags}
use Rattle.record.specs.Line.{line_of}
use Rattle.response.specs.Response.{lent_out_of_range}
use Rattle.rules.specs.Answer.{event_room}
use Rattle.rules.specs.Call.{reply}
use Rattle.rules.specs.Phases.{owed, turn_in}
use Rattle.rules.specs.Refusals.{is_allowed, is_malformed, is_out_of_range, lacks_parameters}
use Rattle.step.proofs.Shown.{late, malformed, unfit, untimely}
use Rattle.session.proofs.Replies.{answered, clear, fits}
use Rattle.session.proofs.Turns.{no_turn, owes}
use Rattle.session.proofs.reply.Goals as goal
use Rattle.session.proofs.reply.Goals.{in-First, in-First-2, then-is_out_of_range-via-then-is_out_of_range, then-is_out_of_range-via-else-is_out_of_range+then-lacks_parameters}

pub returns-in_err-found : goal.returns-in_err-found
unfolding event_room
returns-in_err-found c = rw c.zero.ensures (late (reply _ _ _) _ _ c.from_residual.ensures c.in_err-found.ensures)

pub returns-then-is_out_of_range : goal.returns-then-is_out_of_range
unfolding event_room is_out_of_range line_of
returns-then-is_out_of_range c =
    let out : lent_out_of_range c.args.parameters.now c.args.nas.now || lacks_parameters c.args.parameters.now c.in_ok-found.found.phase ≡ true =
    elim c.then-is_out_of_range.branch [
      | then-is_out_of_range-via-then-is_out_of_range w ↦ search rules
      | then-is_out_of_range-via-else-is_out_of_range+then-lacks_parameters w ↦ search rules
    ] in
    rw c.zero.ensures (unfit (reply _ _ _) c.in_ok-found.ensures out)

pub returns-then-not-well_formed : goal.returns-then-not-well_formed
unfolding event_room is_malformed is_out_of_range line_of
returns-then-not-well_formed c =
    rw c.zero.ensures (malformed (reply _ _ _) c.in_ok-found.ensures (search rules) (search rules))

pub returns-in_default : goal.returns-in_default
unfolding event_room is_allowed is_malformed is_out_of_range line_of owed
returns-in_default c =
    rw c.zero.ensures (untimely (reply _ _ _) c.in_ok-found.ensures (search rules) (search rules) (rw (no_turn c.in_ok-found.found.phase (other_stage Stage.eap _ tags (search rules))) refl))

pub returns-in_default-turn : goal.returns-in_default-turn
unfolding event_room is_allowed is_malformed is_out_of_range line_of owed turn_in
returns-in_default-turn c =
    rw c.zero.ensures (untimely (reply _ _ _) c.in_ok-found.ensures (search rules) (search rules) (rw (c.in-Eap.is, c.in_default-turn.is) refl))

pub fill_response-n-requires : goal.fill_response-n-requires
fill_response-n-requires c = (fits _ _ (sym c.if-is_out_of_range.ensures) _ c.requires _ c.zero.ensures, clear _ _ c.zero.ensures)

pub returns : goal.returns
unfolding event_room is_malformed is_out_of_range line_of owed
returns c =
    let put = c.fill_response-n.ensures in
    let is_owed : owed (Some c.in-Eap.turn) ≡ Some c.match-turn.identifier =
    elim c.match-turn.branch [
      | in-First w ↦ ⊎_elim (λ e. owes e refl w.identifier-is) (λ e. owes e refl w.identifier-is) w.in-First.is
      | in-First-2 w ↦ ⊎_elim (λ e. owes e refl w.identifier-is) (λ e. owes e refl w.identifier-is) w.in-First.is
    ] in
    answered c.args.parameters.now c.args.nas.now c.zero.new.s _ c.in_ok-found.ensures c.zero.ensures (search rules) (search rules) c.in-Eap.is is_owed c.in_phase.ensures put.count put.buffer
