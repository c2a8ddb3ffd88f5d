-- `records::keep_hold_at` meets its contract: the octets of one record are those of the idle line with its address held.
use Prim.Native.Nat.{ℕ}
use mathlib.Core.List.{List}
use mathlib.Core.Path.{ap, ◌∙◌}
use Rattle.phase.specs.Chosen.{chosen}
use Rattle.record.specs.Changes.{held_for}
use Rattle.record.specs.Octets.{line_from}
use Rattle.records.proofs.Within.{changed_at, lent_is, lent_size, lent_sound}
use Rattle.records.proofs.keep_hold_at.Goals as goal

pub keep_hold-requires : goal.keep_hold-requires
keep_hold-requires c =
    let used = c.requires in
    (lent_size _ _ used, lent_sound _ _ used)

pub returns : goal.returns
returns c =
    let a = c.args in
    let l = a.table.now in
    let used = c.requires in
    let put = c.keep_hold in
    λ d is. changed_at l a.i used (held_for a.time d a.end) _ (put.ensures d (ap (λ (r : List ℕ). chosen (line_from r).phase) (lent_is l a.i) ∙ is)) put.auto.b
