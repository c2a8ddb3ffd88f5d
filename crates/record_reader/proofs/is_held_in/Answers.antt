-- `record_reader::is_held_in` meets its contract: the address is looked for among as many holds as the count says.
use Prim.Native.Nat.{ℕ}
use mathlib.Core.Path.{ap, ◌∙◌}
use Rattle.octets.specs.Row.{only}
use Rattle.address.specs.Address.{held_addresses, stands}
use Rattle.holds.specs.Holds.{ends_after, holds_from}
use Rattle.record.specs.Changes.{in_force, with_holds}
use Rattle.record.specs.Octets.{holds_place, line_from}
use Rattle.record_reader.proofs.is_held_in.Goals as goal

pub returns : goal.returns
unfolding in_force with_holds line_from
returns c =
    let a = c.args in
    c.is_held_at.ensures ∙ ap (λ (n : ℕ). stands a.a (held_addresses (only (ends_after a.time) (holds_from a.b.now holds_place n)))) c.get.ensures.0
