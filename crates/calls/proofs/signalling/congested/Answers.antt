-- `calls::signalling::congested` meets its contract: the address of a line that is released is held.
use Rattle.std.specs.Prelude.{slice_get}
use mathlib.Core.List.{List}
use mathlib.Core.Path.{refl, ap, ◌∙◌}
use borrow.Author.Rules.{rules}
use Rattle.octets.specs.Part.{zeros}
use Rattle.address.specs.declared.Hold.{Hold}
use Rattle.rules.specs.Answer.{event_room, room_of}
use Rattle.rules.specs.Call.{congestion}
use Rattle.rules.specs.Refusals.{is_short, least_event_room, least_room}
use Rattle.std.proofs.lemmas.Result.{err_from_is_err_and}
use Rattle.frame.proofs.Timed.{turned_away}
use Rattle.calls.proofs.Timed.{end_of_first, released, uncongested}
use Rattle.calls.proofs.Unheld.{unheld_sound}
use Rattle.calls.proofs.signalling.congested.Goals as goal

pub returns-in_err-entered : goal.returns-in_err-entered
unfolding is_short room_of least_room least_event_room event_room zeros
returns-in_err-entered c =
    let p = err_from_is_err_and c.from_residual.result c.from_residual.ensures.1 in
    rw (p.1, p.2) (turned_away _ _ _ (congestion _ _) _ _ refl _ c.in_err-entered.ensures refl)

pub congested-requires : goal.congested-requires
congested-requires c = unheld_sound _ _ _ c.unlisted_at-found.ensures

pub returns-in_err-done : goal.returns-in_err-done
returns-in_err-done c =
    let p = err_from_is_err_and c.from_residual-in_err-done.result c.from_residual-in_err-done.ensures.1 in
    rw (p.1, p.2) (uncongested _ _ _ _ _ c.in_ok-entered.ensures c.unlisted_at-found.ensures _ _ _ c.in_err-done.ensures)

pub returns : goal.returns
returns c =
    released _ _ _ _ _ c.in_ok-entered.ensures c.unlisted_at-found.ensures _ _ _ c.in_ok-done.ensures
    (end_of_first _ _ _ (c.first-hold.ensures.value ∙ ap (λ (hs : List Hold). slice_get hs 0) c.as_slice.ensures) c.map.ensures.cases (λ h e called. search rules)) c.keep_hold_at.ensures
