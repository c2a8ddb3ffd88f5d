-- `session::eap_success` meets its contract: Success is due where its identifier is that of the last reply.
use mathlib.Core.Path.{refl}
use borrow.Author.Rules.{rules}
use borrow.Author.Tests.{eq-eqb, ne_eqb}
use Rattle.phase.specs.Chosen.{chosen}
use Rattle.phase.specs.Stage as Stage
use Rattle.phase.proofs.Stages.{other_stage, tags}
use Rattle.record.specs.Changes.{in_phase}
use Rattle.record.specs.Line.{line_of}
use Rattle.rules.specs.Life.{goes, keeps, onward, packet_taken}
use Rattle.rules.specs.Phases.{last_reply, turn_in}
use Rattle.rules.specs.Refusals.{is_due, is_identifier}
use Rattle.session.proofs.Turns.{no_turn, unanswered}
use Rattle.session.proofs.eap_success.Goals as goal

pub returns-in_default : goal.returns-in_default
unfolding is_due is_identifier line_of turn_in
returns-in_default c = record { not_due = rw (c.in_default.is, unanswered c.in_default.field-1 (search rules)) refl; refused = refl }

pub returns-in_default-2 : goal.returns-in_default-2
unfolding is_due is_identifier line_of last_reply
returns-in_default-2 c = record { not_due = rw (no_turn c.args.found.phase (other_stage Stage.eap _ tags (search rules))) refl; refused = refl }

pub returns-then-identifier-last : goal.returns-then-identifier-last
unfolding is_due line_of turn_in last_reply is_identifier
returns-then-identifier-last c =
    let was = c.in-Eap-default-Answered in
    let turn = rw was.is at was.field-1-is in
    record { not_due = rw (was.is, turn) (ne_eqb _ _ (rw (was.is, turn) at c.if-identifier-last.true)); refused = refl }

pub returns : goal.returns
unfolding is_due line_of turn_in last_reply is_identifier packet_taken keeps goes in_phase onward chosen
returns c =
    let was = c.in-Eap-default-Answered in
    let turn = rw was.is at was.field-1-is in
    record { due = rw (was.is, turn) (eq-eqb _ _ (rw (was.is, turn) at c.if-identifier-last.false)); line_is = rw was.is c.in_phase.ensures; action_is = refl }
