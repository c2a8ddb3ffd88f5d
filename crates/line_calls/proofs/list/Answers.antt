-- `line_calls::list` meets its contract: a listing that is not refused changes nothing.
use borrow.Author.Tests.{ltb-false}
use Rattle.rules.proofs.Accepted.{tenant_range}
use Rattle.frame.proofs.Entries.{in_range_lem, is_long_lem, is_sound}
use Rattle.line_calls.proofs.Lists.{list_at_first, listed}
use Rattle.line_calls.proofs.list.Goals as goal

pub returns-in-Err : goal.returns-in-Err
returns-in-Err c = list_at_first _ _ _ _ c.in-Err.ensures c.zero.ensures

pub list-requires : goal.list-requires
list-requires c =
    let passed = c.in_default.ensures in
    (is_sound _ _ _ _ passed, tenant_range _ _ (in_range_lem _ _ _ _ passed), ltb-false _ _ (is_long_lem _ _ _ _ passed))

pub returns : goal.returns
returns c =
    listed _ _ _ c.in_default.ensures c.list.ensures.buffer_after c.list.ensures.value
