-- `setup::is_choice_held` meets its contract: only an address may be held.
use Rattle.attempt.proofs.Told.{of_address}
use Rattle.record.specs.Changes.{current, in_force, with_holds}
use Rattle.record.specs.Octets.{line_from}
use Rattle.table.specs.Table.{slot}
use Rattle.setup.proofs.is_choice_held.Goals as goal

pub returns-in-Address : goal.returns-in-Address
unfolding current in_force with_holds
returns-in-Address c =
    of_address _ _ (current c.args.time (line_from (slot c.args.table.now c.args.i))).holds _ c.in-Address.is c.is_held_at.ensures
