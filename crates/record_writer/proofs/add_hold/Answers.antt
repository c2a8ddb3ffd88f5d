-- `record_writer::add_hold` meets its contract: the hold is written behind the others where there is room and an end, and their count is one more.
use native.Mathlib.Omega.{arith}
use Rattle.record.proofs.Adding.{hold_added_lem, none_added}
use Rattle.record_writer.proofs.add_hold.Goals as goal

pub returns-in_default : goal.returns-in_default
returns-in_default c = rw c.in_default.is (λ room. none_added)

pub returns-then-n-ge-HOLDS : goal.returns-then-n-ge-HOLDS
returns-then-n-ge-HOLDS c = λ room. absurd (omega (arith, c.get-n.ensures.0, c.if-n-ge-HOLDS.true))

pub returns : goal.returns
returns c =
    rw c.in-Some.is
    (λ room. hold_added_lem _ c.get-n.ensures.0 c.if-n-ge-HOLDS.false c.put_hold.ensures c.put.ensures)
