-- `calls::signalling::eap` meets its contract: what the packet comes to on the line is what the call returns.
use mathlib.Core.List.{[]}
use mathlib.Core.Path.{refl}
use Rattle.octets.specs.Part.{zeros}
use Rattle.rules.specs.Answer.{event_room, numbers_of, room_of, twelve}
use Rattle.rules.specs.Call.{eap}
use Rattle.rules.specs.Refusals.{is_short, least_event_room, least_room}
use Rattle.std.proofs.lemmas.Result.{err_from_is_err_and}
use Rattle.frame.proofs.Timed.{no_part, stayed, stood, turned_away}
use Rattle.calls.proofs.signalling.eap.Goals as goal

pub returns-in_err-entered : goal.returns-in_err-entered
unfolding is_short room_of least_room least_event_room event_room zeros
returns-in_err-entered c =
    let p = err_from_is_err_and c.from_residual.result c.from_residual.ensures.1 in
    let away = no_part _ [] [] c.args.packet.now _ _ (turned_away _ _ _ (eap _) _ _ refl _ c.in_err-entered.ensures refl) in
    rw (p.1, p.2) (record { table_after = away.0; part_within = away.1 })

pub returns-in_err-done : goal.returns-in_err-done
unfolding is_short room_of least_room least_event_room event_room zeros numbers_of twelve
returns-in_err-done c =
    let p = err_from_is_err_and c.from_residual-in_err-done.result c.from_residual-in_err-done.ensures.1 in
    let is = c.in_err-done.ensures in
    rw (p.1, p.2)
    (record { table_after = stayed _ _ _ (eap _) _ _ refl _ c.in_ok-entered.ensures _ _ refl c.unlisted_at.ensures _ is.effect_is; part_within = is.part_within })

pub returns : goal.returns
unfolding is_short room_of least_room least_event_room event_room zeros
returns c =
    let is = c.in_ok-done.ensures in
    record {
      table_after = stood _ _ _ (eap _) _ _ refl _ c.in_ok-entered.ensures _ _ refl c.unlisted_at.ensures _ is.effect_is c.standing_of.ensures c.keep_standing_at.ensures;
      part_within = is.part_within;
    }
