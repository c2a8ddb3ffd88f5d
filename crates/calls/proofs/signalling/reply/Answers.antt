-- `calls::signalling::reply` meets its contract: what the reply comes to on the line is what the call returns.
use mathlib.Core.Path.{refl}
use borrow.Author.Tests.{ltb-false}
use Rattle.rules.specs.Answer.{event_room, room_of}
use Rattle.rules.specs.Call.{reply}
use Rattle.rules.specs.Refusals.{is_short, least_event_room, least_room}
use Rattle.std.proofs.lemmas.Result.{err_from_is_err_and}
use Rattle.frame.proofs.Timed.{stayed, stood, turned_away}
use Rattle.calls.proofs.signalling.reply.Goals as goal

pub returns-in-Err : goal.returns-in-Err
unfolding is_short room_of least_room least_event_room event_room
returns-in-Err c = turned_away _ _ _ (reply _ _ _) _ _ refl _ c.in-Err.ensures c.zero.ensures

pub reply-requires : goal.reply-requires
reply-requires c = ltb-false _ _ c.in-Ok.ensures.buffer_fits

pub returns-in_err-done : goal.returns-in_err-done
unfolding is_short room_of least_room least_event_room event_room
returns-in_err-done c =
    let p = err_from_is_err_and c.from_residual.result c.from_residual.ensures.1 in
    rw (p.1, p.2) (stayed _ _ _ (reply _ _ _) _ _ refl _ c.in-Ok.ensures _ _ refl c.unlisted_at.ensures _ c.in_err-done.ensures)

pub returns : goal.returns
unfolding is_short room_of least_room least_event_room event_room
returns c =
    stood _ _ _ (reply _ _ _) _ _ refl _ c.in-Ok.ensures _ _ refl c.unlisted_at.ensures _ c.in_ok-done.ensures c.standing_of.ensures c.keep_standing_at.ensures
