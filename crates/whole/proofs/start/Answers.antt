-- `whole::start` meets its contract: what is chosen on the line that is found is finished.
use mathlib.Core.Path.{refl, sym, ap, ◌∙◌}
use native.Mathlib.Omega.{arith}
use lib.ListN.{length}
use Rattle.record.specs.Line.{line_of}
use Rattle.refusal.specs.Numbers.{number_of}
use Rattle.rules.specs.Answer.{event_room}
use Rattle.rules.specs.Call.{start}
use Rattle.step.proofs.Steps.{late}
use Rattle.whole.proofs.Naming.{carried_out, sent_back}
use Rattle.whole.proofs.start.Goals as goal

pub returns-in_err-found : goal.returns-in_err-found
unfolding event_room
returns-in_err-found c =
    let found = c.in_err-found.ensures in
    let a = sent_back (start _ _ _) _ _ _ refl _ _ c.from_residual.result _ c.from_residual.ensures (late _ _ _ found.is_late ∙ ap number_of (sym found.refused)) c.zero.ensures in
    record { name_after = a.0; part_within = a.1 }

pub returns-in_err-chosen : goal.returns-in_err-chosen
unfolding event_room line_of
returns-in_err-chosen c =
    let found = c.in_ok-found.ensures in
    let selects = c.in_err-chosen.ensures (line_of c.in_ok-found.found) (length c.args.name.now) refl (ap length (sym c.as_slice-in_force.ensures)) in
    let a = sent_back (start _ _ _) _ _ _ found.line_is _ _ c.from_residual-in_err-chosen.result _ c.from_residual-in_err-chosen.ensures selects.refusal_is c.zero.ensures in
    record { name_after = a.0; part_within = a.1 }

pub finished-requires : goal.finished-requires
unfolding line_of
finished-requires c =
    let selects = c.in_ok-chosen.ensures (line_of c.in_ok-found.found) 0 refl (ap length (sym c.as_slice-in_force.ensures)) in
    (selects.within, omega arith)

pub returns : goal.returns
unfolding event_room line_of
returns c =
    let found = c.in_ok-found.ensures in
    let selects = c.in_ok-chosen.ensures (line_of c.in_ok-found.found) (length c.args.name.now) refl (ap length (sym c.as_slice-in_force.ensures)) in
    let a = carried_out (start _ _ _) _ _ _ found.line_is _ _ selects.refusal_is _ selects.outcome_is c.finished.result _ c.zero.auto.s c.finished.ensures in
    record { name_after = a.0; part_within = a.1 }
