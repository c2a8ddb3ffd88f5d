-- `line_calls::close` meets its contract: the tests stand in the order of their numbers.
use mathlib.Core.Path.{refl}
use native.Mathlib.Omega.{arith}
use Rattle.table.proofs.Puts.{table_length_lem}
use Rattle.std.proofs.lemmas.Result.{err_from_is_err_and}
use Rattle.rules.proofs.Accepted.{line_range, tenant_range}
use Rattle.rules.proofs.Found.{line_there, none_there}
use Rattle.frame.proofs.Entries.{in_range_lem, is_sound}
use Rattle.line_calls.proofs.Opens.{close_at_first, closed, not_open}
use Rattle.line_calls.proofs.close.Goals as goal

pub returns-in_err-checked : goal.returns-in_err-checked
returns-in_err-checked c =
    let p = err_from_is_err_and c.from_residual.result c.from_residual.ensures.1 in
    rw (p.1, p.2) (close_at_first _ _ _ _ c.in_err-checked.ensures)

pub pair_of-requires : goal.pair_of-requires
pair_of-requires c =
    let fits = in_range_lem _ _ _ _ c.in_ok-checked.ensures in
    (tenant_range _ _ fits, line_range _ _ fits)

pub record_of-requires : goal.record_of-requires
record_of-requires c =
    omega (arith, table_length_lem _ (is_sound _ _ _ _ c.in_ok-checked.ensures))

pub returns-in_default : goal.returns-in_default
returns-in_default c =
    not_open _ _ _ c.in_ok-checked.ensures (none_there _ _ _ c.pair_of.ensures refl c.in_default.ensures)

pub erase-requires : goal.erase-requires
erase-requires c =
    omega (arith, table_length_lem _ (is_sound _ _ _ _ c.in_ok-checked.ensures), c.in-Some.ensures.1)

pub returns : goal.returns
returns c =
    let numbered = c.pair_of.ensures in
    let found = c.in-Some.ensures in
    closed _ _ _ c.in_ok-checked.ensures _ (line_there _ _ _ numbered found.0 found.1) _ _ numbered found.0 _ c.erase.ensures
