-- `setup::address` meets its contract: what the answer comes to on the line is what the call returns.
use mathlib.Core.Path.{refl}
use Rattle.octets.specs.Part.{zeros}
use Rattle.record.specs.Changes.{in_force, with_holds}
use Rattle.rules.specs.Answer.{event_room, room_of}
use Rattle.rules.specs.Call.{address}
use Rattle.rules.specs.Refusals.{is_short, least_event_room, least_room}
use Rattle.std.proofs.lemmas.Result.{err_from_is_err_and}
use Rattle.frame.proofs.Stores.{stored}
use Rattle.frame.proofs.Timed.{turned_away}
use Rattle.setup.proofs.Addressed.{addressed, unanswered}
use Rattle.setup.proofs.address.Goals as goal

pub returns-in_err-entered : goal.returns-in_err-entered
unfolding is_short room_of least_room least_event_room event_room zeros
returns-in_err-entered c =
    let p = err_from_is_err_and c.from_residual.result c.from_residual.ensures.1 in
    rw (p.1, p.2) (turned_away _ _ _ (address _) _ _ refl _ c.in_err-entered.ensures refl)

pub returns-in_err-done : goal.returns-in_err-done
unfolding in_force with_holds
returns-in_err-done c =
    let p = err_from_is_err_and c.from_residual-in_err-done.result c.from_residual-in_err-done.ensures.1 in
    rw (p.1, p.2) (unanswered _ _ _ _ _ c.in_ok-entered.ensures c.unlisted_at.ensures _ _ (c.in_err-done.ensures.hs_value _ c.held_at-held.ensures))

pub returns : goal.returns
unfolding in_force with_holds
returns c =
    let passes = c.in_ok-entered.ensures in
    addressed _ _ _ _ _ passes c.unlisted_at.ensures _ _ (c.in_ok-done.ensures.hs_value _ c.held_at-held.ensures) (stored _ _ passes.stands _ c.keep_at.ensures)
