-- `calls::signalling::on_line_by` meets its contract: what the step comes to on the line is what the call returns.
use Rattle.std.proofs.lemmas.Result.{err_from_is_err_and}
use Rattle.frame.proofs.Timed.{never_short, no_buffer, stayed, stood, turned_away}
use Rattle.calls.proofs.signalling.on_line_by.Goals as goal

pub returns-in_err-entered : goal.returns-in_err-entered
returns-in_err-entered g c =
    let p = err_from_is_err_and c.from_residual.result c.from_residual.ensures.1 in
    rw (p.1, p.2)
    (λ e is step. turned_away _ _ _ e _ _ (never_short e is.has_none is.needs_none _ _ _) _ c.in_err-entered.ensures (no_buffer e is.has_none))

pub returns-in_err-done : goal.returns-in_err-done
returns-in_err-done g c =
    let p = err_from_is_err_and c.from_residual-in_err-done.result c.from_residual-in_err-done.ensures.1 in
    rw (p.1, p.2)
    (λ e is step. stayed _ _ _ e _ _ (never_short e is.has_none is.needs_none _ _ _) _ c.in_ok-entered.ensures _ _ is.kind_is c.unlisted_at-found.ensures _ (step _ _ c.in_err-done.ensures))

pub returns : goal.returns
returns g c =
    λ e is step. stood _ _ _ e _ _ (never_short e is.has_none is.needs_none _ _ _) _ c.in_ok-entered.ensures _ _ is.kind_is c.unlisted_at-found.ensures _ (step _ _ c.in_ok-done.ensures) c.standing_of.ensures c.keep_standing_at.ensures
