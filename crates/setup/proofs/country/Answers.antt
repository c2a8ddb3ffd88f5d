-- `setup::country` meets its contract: what the choice comes to on the line is what the call returns.
use mathlib.Core.List.{[]}
use mathlib.Core.Path.{refl, ap, ◌∙◌}
use borrow.Author.Tests.{ltb-false}
use lib.ListN.{length}
use Rattle.record.specs.Changes.{current, in_force, with_holds}
use Rattle.record.specs.Octets.{line_from}
use Rattle.table.specs.Table.{slot}
use Rattle.rules.specs.Answer.{event_room, room_of}
use Rattle.rules.specs.Call.{country}
use Rattle.rules.specs.Refusals.{is_short, least_event_room, least_room}
use Rattle.std.proofs.lemmas.Result.{err_from_is_err_and}
use Rattle.frame.proofs.Timed.{no_part, turned_away}
use Rattle.setup.proofs.Finishing.{decides, refuses}
use Rattle.setup.proofs.country.Goals as goal

pub returns-in_err-entered : goal.returns-in_err-entered
unfolding is_short room_of least_room least_event_room event_room
returns-in_err-entered c =
    let a = c.args in
    let p = err_from_is_err_and c.from_residual.result c.from_residual.ensures.1 in
    let e = c.in_err-entered.ensures in
    let away = no_part _ a.text.now _ [] _ _ (turned_away _ _ _ (country a.replied a.networks.now a.text.now (length a.name.now)) _ _ refl _ (rw (← e.same) at c.enter.ensures) e.name_after) in
    rw (p.1, p.2) (record { table_after = away.0; part_within = away.1 })

pub returns-in_err-selected : goal.returns-in_err-selected
unfolding is_short room_of least_room least_event_room event_room current in_force with_holds
returns-in_err-selected c =
    let a = c.args in
    let p = err_from_is_err_and c.from_residual-in_err-selected.result c.from_residual-in_err-selected.ensures.1 in
    let e = c.in_ok-entered.ensures in
    let found = current a.time (line_from (slot a.table.now c.in_ok-entered.entered.at)) in
    let s = (rw (← c.in_err-selected.ensures.same) at c.country_choice.ensures) found (length a.name.now) c.awaited_at-awaited.ensures in
    let zeroed = rw e.name_after at c.in_err-selected.ensures.name_after in
    let away = no_part _ a.text.now _ [] _ _ (refuses _ _ _ (country a.replied a.networks.now a.text.now (length a.name.now)) _ _ refl _ (rw (← e.same) at c.enter.ensures) _ s.refusal_is zeroed) in
    rw (p.1, p.2) (record { table_after = away.0; part_within = away.1 })

pub finish-requires : goal.finish-requires
unfolding current in_force with_holds
finish-requires c =
    let a = c.args in
    let e = c.in_ok-entered.ensures in
    let passes = rw (← e.same) at c.enter.ensures in
    let found = current a.time (line_from (slot a.table.now c.in_ok-entered.entered.at)) in
    let s = (rw (← c.in_ok-selected.ensures.same) at c.country_choice.ensures) found 0 c.awaited_at-awaited.ensures in
    (passes.stands, s.within, rw (c.in_ok-selected.ensures.name_after, e.name_after) (ltb-false _ _ passes.buffer_fits))

pub returns-clause-table_after : goal.returns-clause-table_after
unfolding is_short room_of least_room least_event_room event_room current in_force with_holds
returns-clause-table_after c =
    let a = c.args in
    let e = c.in_ok-entered.ensures in
    let found = current a.time (line_from (slot a.table.now c.in_ok-entered.entered.at)) in
    let s = (rw (← c.in_ok-selected.ensures.same) at c.country_choice.ensures) found (length a.name.now) c.awaited_at-awaited.ensures in
    let sized = ap length (c.in_ok-selected.ensures.name_after ∙ e.name_after) in
    decides _ _ _ (country a.replied a.networks.now a.text.now (length a.name.now)) _ _ refl _ (rw (← e.same) at c.enter.ensures) _ s.refusal_is s.outcome_is sized c.finish.ensures
