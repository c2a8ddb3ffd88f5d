-- `record_reader::in_force_in` meets its contract: as many holds are asked as the count says.
use Prim.Native.Nat.{ℕ}
use mathlib.Core.Path.{ap, ◌∙◌}
use lib.ListN.{length}
use Rattle.octets.specs.Row.{only}
use Rattle.holds.specs.Holds.{ends_after, holds_from}
use Rattle.record.specs.Changes.{in_force, with_holds}
use Rattle.record.specs.Octets.{holds_place, line_from}
use Rattle.record_reader.proofs.in_force_in.Goals as goal

pub returns : goal.returns
unfolding in_force with_holds line_from
returns c =
    let a = c.args in
    c.count_in_force.ensures ∙ ap (λ (n : ℕ). length (only (ends_after a.time) (holds_from a.b.now holds_place n))) c.get.ensures.0
