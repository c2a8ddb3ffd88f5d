-- `records::unlisted_at` meets its contract: the octets of the record are read.
use Prim.Native.Nat.{ℕ}
use mathlib.Core.List.{List, []}
use mathlib.Core.Path.{ap, ◌∙◌}
use borrow.Author.Rules.{rules}
use Rattle.phase.specs.Standing.{bare}
use Rattle.record.specs.Changes.{unheld}
use Rattle.record.specs.Octets.{line_from}
use Rattle.table.specs.Table.{slot}
use Rattle.records.proofs.unlisted_at.Goals as goal

pub read_unlisted-requires : goal.read_unlisted-requires
unfolding slot
read_unlisted-requires c = search rules

pub returns : goal.returns
unfolding slot
returns c =
    c.read_unlisted.ensures ∙ ap (λ (s : List ℕ). unheld (bare (line_from s).phase) []) c.part.ensures.0
