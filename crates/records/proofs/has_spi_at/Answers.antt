-- `records::has_spi_at` meets its contract: a sound record has counts within its room.
use Prim.Native.Nat.{ℕ}
use mathlib.Core.List.{List}
use mathlib.Core.Path.{ap, ◌∙◌}
use Rattle.children.specs.Children.{has_spi}
use Rattle.record.specs.Octets.{line_from}
use Rattle.table.specs.Table.{slot}
use Rattle.table.proofs.Slots.{slot_reads}
use Rattle.records.proofs.has_spi_at.Goals as goal

pub has_spi_in-requires : goal.has_spi_in-requires
unfolding slot
has_spi_in-requires c =
    let reads = slot_reads _ _ c.part.ensures.0 c.part.ensures.1 c.requires.1 in
    (reads.0, reads.2)

pub returns : goal.returns
unfolding slot
returns c =
    let a = c.args in
    c.has_spi_in.ensures ∙ ap (λ (s : List ℕ). has_spi a.spi (line_from s).children) c.part.ensures.0
