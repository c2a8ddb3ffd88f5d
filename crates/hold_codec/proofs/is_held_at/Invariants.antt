-- `hold_codec::is_held_at` meets its contract. The loop's invariant: the holds that are left decide.
use Prim.Native.Nat.{ℕ, ◌-◌}
use mathlib.Core.Bool.{Bool}
use mathlib.Core.List.{List}
use mathlib.Core.Path.{◌≡◌}
use Rattle.octets.specs.Row.{only, row}
use Rattle.address.specs.Address.{held_addresses, stands}
use Rattle.address.specs.declared.Address.{Address}
use Rattle.holds.specs.Holds.{ends_after, hold_in, holds_from}
use Rattle.hold_codec.proofs.is_held_at.Given as goal

-- an address is one of the holds from number i on that end after a time
abbrev pub left : List ℕ → ℕ → ℕ → ℕ → Address → ℕ → Bool
left l at n time a i = stands a (held_addresses (only (ends_after time) (row (hold_in l at) i (n - i))))

abbrev pub invariant-loop-i : goal.invariant-loop-i
invariant-loop-i l = stands l.a (held_addresses (only (ends_after l.time) (holds_from l.b l.at l.n))) ≡ left l.b l.at l.n l.time l.a l.i
