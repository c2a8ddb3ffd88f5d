-- `hold_codec::stand_in_force` meets its contract. The loop's invariant: the holds passed have addresses, and the ends of those that are left decide.
use Prim.Native.Nat.{ℕ, ◌-◌}
use mathlib.Core.Bool.{Bool, true}
use mathlib.Core.List.{List}
use mathlib.Core.Path.{◌≡◌}
use Rattle.octets.specs.Row.{row}
use Rattle.octets.specs.Search.{all, all_of}
use Rattle.holds.specs.Holds.{ends_after, has_address, hold_in, holds_from}
use Rattle.hold_codec.proofs.stand_in_force.Given as goal

-- the holds from number i on end after a time
abbrev pub left : List ℕ → ℕ → ℕ → ℕ → ℕ → Bool
left l at n time i = all_of (ends_after time) (row (hold_in l at) i (n - i))

abbrev pub invariant-loop-i : goal.invariant-loop-i
invariant-loop-i l = (all l.i (has_address l.b l.at) ≡ true) × (all_of (ends_after l.time) (holds_from l.b l.at l.n) ≡ left l.b l.at l.n l.time l.i)
