-- `calls::tunnels::on_tunnel_by` meets its contract: what the step comes to on the line is what the call returns.
use Rattle.std.proofs.lemmas.Result.{err_from_is_err_and}
use Rattle.frame.proofs.Timed.{left, never_short, no_buffer, turned_away, untunnelled}
use Rattle.calls.proofs.tunnels.on_tunnel_by.Goals as goal

pub returns-in_err-entered : goal.returns-in_err-entered
returns-in_err-entered g c =
    let p = err_from_is_err_and c.from_residual.result c.from_residual.ensures.1 in
    rw (p.1, p.2)
    (λ e is step. turned_away _ _ _ e _ _ (never_short e is.has_none is.needs_none _ _ _) _ c.in_err-entered.ensures (no_buffer e is.has_none))

pub returns-in_err-done : goal.returns-in_err-done
returns-in_err-done g c =
    let p = err_from_is_err_and c.from_residual-in_err-done.result c.from_residual-in_err-done.ensures.1 in
    rw (p.1, p.2)
    (λ e is step. left _ _ _ e _ _ (never_short e is.has_none is.needs_none _ _ _) _ c.in_ok-entered.ensures _ _ is.kind_is c.unheld_at.ensures _ (step _ _ c.in_err-done.ensures))

pub returns : goal.returns
returns g c =
    λ e is step. untunnelled _ _ _ e _ _ (never_short e is.has_none is.needs_none _ _ _) _ c.in_ok-entered.ensures _ _ is.kind_is c.unheld_at.ensures _ (step _ _ c.in_ok-done.ensures) c.standing_of-standing.ensures c.as_slice.ensures c.keep_tunnels_at.ensures
