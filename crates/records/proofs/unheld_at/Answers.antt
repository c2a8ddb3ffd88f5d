-- `records::unheld_at` meets its contract: the octets of the record are read.
use Prim.Native.Nat.{ℕ}
use mathlib.Core.List.{List}
use mathlib.Core.Path.{ap, ◌∙◌}
use Rattle.phase.specs.Standing.{bare}
use Rattle.record.specs.Changes.{unheld}
use Rattle.record.specs.Octets.{line_from}
use Rattle.table.specs.Table.{slot}
use Rattle.table.proofs.Slots.{slot_reads}
use Rattle.records.proofs.unheld_at.Goals as goal

pub read_unheld-requires : goal.read_unheld-requires
unfolding slot
read_unheld-requires c =
    let reads = slot_reads _ _ c.part.ensures.0 c.part.ensures.1 c.requires.1 in
    (reads.0, reads.2)

pub returns : goal.returns
unfolding slot
returns c =
    c.read_unheld.ensures ∙ ap (λ (s : List ℕ). unheld (bare (line_from s).phase) (line_from s).children) c.part.ensures.0
