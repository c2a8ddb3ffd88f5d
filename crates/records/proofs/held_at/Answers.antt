-- `records::held_at` meets its contract: a sound record has counts within its room.
use Prim.Native.Nat.{ℕ}
use mathlib.Core.List.{List}
use mathlib.Core.Path.{ap, ◌∙◌}
use Rattle.address.specs.Address.{held_addresses, stands}
use Rattle.lists.specs.Lists.{address_at}
use Rattle.record.specs.Changes.{in_force}
use Rattle.record.specs.Octets.{line_from}
use Rattle.table.specs.Table.{slot}
use Rattle.table.proofs.Slots.{slot_reads}
use Rattle.records.proofs.held_at.Goals as goal

pub held_in-requires : goal.held_in-requires
unfolding slot
held_in-requires c =
    let reads = slot_reads _ _ c.part.ensures.0 c.part.ensures.1 c.requires.1 in
    (reads.0, reads.1)

pub returns : goal.returns
unfolding slot
returns c =
    let a = c.args in
    λ most j there. c.held_in.ensures most j there
    ∙ ap (λ (s : List ℕ). stands (address_at a.list.now j) (held_addresses (in_force a.time (line_from s)).holds)) c.part.ensures.0
