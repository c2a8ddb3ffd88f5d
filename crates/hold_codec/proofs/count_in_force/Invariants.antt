-- `hold_codec::count_in_force` meets its contract. The loop's invariant: the count and the holds that are left make the whole.
use Prim.Native.Nat.{ℕ, ◌+◌, ◌-◌, ◌≤◌}
use mathlib.Core.List.{List}
use mathlib.Core.Path.{◌≡◌}
use lib.ListN.{length}
use Rattle.octets.specs.Row.{only, row}
use Rattle.holds.specs.Holds.{ends_after, hold_in, holds_from}
use Rattle.hold_codec.proofs.count_in_force.Given as goal

-- how many of the holds from number i on end after a time
abbrev pub left : List ℕ → ℕ → ℕ → ℕ → ℕ → ℕ
left l at n time i = length (only (ends_after time) (row (hold_in l at) i (n - i)))

abbrev pub invariant-loop-i : goal.invariant-loop-i
invariant-loop-i l = (l.count ≤ l.i) × (l.count + left l.b l.at l.n l.time l.i ≡ length (only (ends_after l.time) (holds_from l.b l.at l.n)))
