-- `frame::enter` meets its contract: the tests stand in the order of their numbers.
use mathlib.Core.Path.{refl, sym, ap, ◌∙◌}
use native.Mathlib.Omega.{arith}
use borrow.Author.Tests.{le-ltb, lt-ltb}
use lib.Dec.{ltb}
use Rattle.std.proofs.lemmas.Result.{err_from_is_err_and}
use Rattle.table.proofs.Puts.{table_length_lem}
use Rattle.table.proofs.Views.{pair_there}
use Rattle.rules.proofs.Accepted.{line_range, tenant_range}
use Rattle.rules.proofs.Found.{line_there, none_there, record_there}
use Rattle.frame.proofs.Entries.{by_closed, by_first, by_none, by_time, in_range_lem, is_sound}
use Rattle.frame.proofs.enter.Goals as goal

pub returns-in_err-checked : goal.returns-in_err-checked
returns-in_err-checked c =
    let p = err_from_is_err_and c.from_residual.result c.from_residual.ensures.1 in
    rw (p.1, p.2) (by_first _ _ _ _ _ _ c.in_err-checked.ensures)

pub pair_of-pair-requires : goal.pair_of-pair-requires
pair_of-pair-requires c =
    let fits = in_range_lem _ _ _ _ c.in_ok-checked.ensures in
    (tenant_range _ _ fits, line_range _ _ fits)

pub record_of-requires : goal.record_of-requires
record_of-requires c =
    omega (arith, table_length_lem c.args.table.now (is_sound _ _ _ _ c.in_ok-checked.ensures))

pub returns-in_default : goal.returns-in_default
returns-in_default c =
    by_closed _ _ _ _ _ c.in_ok-checked.ensures (none_there _ _ _ c.pair_of-pair.ensures refl c.in_default.ensures)

pub time_at-requires : goal.time_at-requires
time_at-requires c =
    omega (arith, table_length_lem c.args.table.now (is_sound _ _ _ _ c.in_ok-checked.ensures), c.in-Some.ensures.1)

pub returns-then-time-time_at : goal.returns-then-time-time_at
returns-then-time-time_at c =
    let found = c.in-Some.ensures in
    by_time _ _ _ _ _ c.in_ok-checked.ensures _ (line_there _ _ _ c.pair_of-pair.ensures found.0 found.1) (ap (ltb _) (sym c.time_at.ensures) ∙ lt-ltb _ _ c.if-time-time_at.true)

pub returns : goal.returns
returns c =
    let l = c.args.table.now in
    let none_given = c.in_ok-checked.ensures in
    let sound = is_sound _ _ _ _ none_given in
    let pair = c.pair_of-pair.ensures in
    let found = c.in-Some.ensures in
    by_none _ _ _ _ _ none_given _ (line_there _ _ _ pair found.0 found.1) (ap (ltb _) (sym c.time_at.ensures) ∙ le-ltb _ _ c.if-time-time_at.false) pair
    (record {
      used = (omega (arith, table_length_lem l sound, found.1), record_there l _ _ pair found.0 found.1 sound);
      at_is = found.0;
      pair_is = pair_there l found.0 found.1;
    })
