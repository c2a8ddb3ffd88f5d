-- `records::in_force_at` meets its contract: a sound record has counts within its room.
use Prim.Native.Nat.{ℕ}
use mathlib.Core.List.{List}
use mathlib.Core.Path.{ap, ◌∙◌}
use lib.ListN.{length}
use Rattle.record.specs.Changes.{in_force}
use Rattle.record.specs.Octets.{line_from}
use Rattle.table.specs.Table.{slot}
use Rattle.table.proofs.Slots.{slot_reads}
use Rattle.records.proofs.in_force_at.Goals as goal

pub in_force_in-requires : goal.in_force_in-requires
unfolding slot
in_force_in-requires c =
    let reads = slot_reads _ _ c.part.ensures.0 c.part.ensures.1 c.requires.1 in
    (reads.0, reads.1)

pub returns : goal.returns
unfolding slot
returns c =
    let a = c.args in
    c.in_force_in.ensures ∙ ap (λ (s : List ℕ). length (in_force a.time (line_from s)).holds) c.part.ensures.0
