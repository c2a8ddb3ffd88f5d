-- `line_calls::open` meets its contract: the tests stand in the order of their numbers.
use mathlib.Core.Path.{refl}
use native.Mathlib.Omega.{arith}
use Rattle.record.specs.Changes.{unheld}
use Rattle.table.proofs.Puts.{table_length_lem}
use Rattle.std.proofs.lemmas.Result.{err_from_is_err_and}
use Rattle.rules.specs.View.{fresh}
use Rattle.rules.proofs.Accepted.{line_range, tenant_range}
use Rattle.rules.proofs.Found.{line_there, none_there}
use Rattle.frame.proofs.Entries.{in_range_lem, is_sound}
use Rattle.line_calls.proofs.Opens.{all_taken, is_found, is_missing, open_at_first, opened, opened_already}
use Rattle.line_calls.proofs.open.Goals as goal

pub returns-in_err-checked : goal.returns-in_err-checked
returns-in_err-checked c =
    let p = err_from_is_err_and c.from_residual.result c.from_residual.ensures.1 in
    rw (p.1, p.2) (open_at_first _ _ _ _ c.in_err-checked.ensures)

pub pair_of-pair-requires : goal.pair_of-pair-requires
pair_of-pair-requires c =
    let fits = in_range_lem _ _ _ _ c.in_ok-checked.ensures in
    (tenant_range _ _ fits, line_range _ _ fits)

pub record_of-requires : goal.record_of-requires
record_of-requires c =
    omega (arith, table_length_lem _ (is_sound _ _ _ _ c.in_ok-checked.ensures))

pub returns-then-is_some : goal.returns-then-is_some
returns-then-is_some c =
    opened_already _ _ _ c.in_ok-checked.ensures _ (line_there _ _ _ c.pair_of-pair.ensures refl (is_found _ _ _ c.record_of.ensures c.if-is_some.ensures))

pub record_of-requires-2 : goal.record_of-requires-2
record_of-requires-2 c =
    omega (arith, table_length_lem _ (is_sound _ _ _ _ c.in_ok-checked.ensures))

pub returns-in_default : goal.returns-in_default
returns-in_default c =
    let missing = none_there _ _ _ c.pair_of-pair.ensures refl (is_missing _ _ _ c.record_of.ensures c.if-is_some.ensures) in
    all_taken _ _ _ c.in_ok-checked.ensures missing _ refl c.in_default.ensures

pub open_at-requires : goal.open_at-requires
open_at-requires c =
    omega (arith, table_length_lem _ (is_sound _ _ _ _ c.in_ok-checked.ensures), c.in-Some.ensures.1)

pub returns : goal.returns
unfolding fresh unheld
returns c =
    let found = c.in-Some.ensures in
    let missing = none_there _ _ _ c.pair_of-pair.ensures refl (is_missing _ _ _ c.record_of.ensures c.if-is_some.ensures) in
    opened _ _ _ c.in_ok-checked.ensures missing _ found.0 found.1 _ c.pair_of-pair.ensures _ c.open_at.ensures
