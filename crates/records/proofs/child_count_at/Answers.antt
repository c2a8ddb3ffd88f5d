-- `records::child_count_at` meets its contract: the count in the record is read.
use Prim.Native.Nat.{ℕ}
use mathlib.Core.List.{List}
use mathlib.Core.Path.{ap, ◌∙◌}
use lib.ListN.{length}
use Rattle.record.specs.Octets.{line_from}
use Rattle.table.specs.Table.{slot}
use Rattle.records.proofs.child_count_at.Goals as goal

pub returns : goal.returns
unfolding slot
returns c = c.child_count_in.ensures ∙ ap (λ (s : List ℕ). length (line_from s).children) c.part.ensures.0
