-- `calls::tunnels::child_made` meets its contract: a child that is made stands behind the others.
use mathlib.Core.Path.{refl}
use Rattle.octets.specs.Part.{zeros}
use Rattle.rules.specs.Answer.{event_room, room_of}
use Rattle.rules.specs.Call.{child_made}
use Rattle.rules.specs.Refusals.{is_short, least_event_room, least_room}
use Rattle.std.proofs.lemmas.Result.{err_from_is_err_and}
use Rattle.frame.proofs.Timed.{turned_away}
use Rattle.calls.proofs.Timed.{made, unmade}
use Rattle.calls.proofs.tunnels.child_made.Goals as goal

pub returns-in_err-entered : goal.returns-in_err-entered
unfolding is_short room_of least_room least_event_room event_room zeros
returns-in_err-entered c =
    let p = err_from_is_err_and c.from_residual.result c.from_residual.ensures.1 in
    rw (p.1, p.2) (turned_away _ _ _ (child_made _ _) _ _ refl _ c.in_err-entered.ensures refl)

pub returns-in_err-done : goal.returns-in_err-done
returns-in_err-done c =
    let p = err_from_is_err_and c.from_residual-in_err-done.result c.from_residual-in_err-done.ensures.1 in
    rw (p.1, p.2)
    (unmade _ _ _ _ _ c.in_ok-entered.ensures c.unlisted_at-found.ensures (record { spi = c.args.spi; session = c.args.session }) _ (c.in_err-done.ensures.effect_is _ c.has_spi_at-taken.ensures c.child_count_at-n.ensures))

pub returns : goal.returns
returns c =
    made _ _ _ _ _ c.in_ok-entered.ensures c.unlisted_at-found.ensures (record { spi = c.args.spi; session = c.args.session }) _ (c.in_ok-done.ensures.effect_is _ c.has_spi_at-taken.ensures c.child_count_at-n.ensures)
    c.standing_of.ensures c.keep_child_at.ensures
