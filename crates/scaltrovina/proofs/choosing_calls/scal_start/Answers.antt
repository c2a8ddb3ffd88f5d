-- `scal_start` meets its contract: its numbers are those of a start.
use Rattle.rules.specs.Call.{start_numbers}
use Rattle.scaltrovina.proofs.choosing_calls.scal_start.Goals as goal

pub returns-clause-table_after : goal.returns-clause-table_after
unfolding start_numbers
returns-clause-table_after c =
    let told = c.answered.ensures in
    rw (told.value, told.answer_after) c.start.ensures.table_after
