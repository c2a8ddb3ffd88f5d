-- `hold_codec::all_in_force` meets its contract. The loop's invariant: the holds that are left decide.
use Prim.Native.Nat.{◌-◌}
use mathlib.Core.Path.{◌≡◌}
use Rattle.octets.specs.Row.{row}
use Rattle.octets.specs.Search.{all_of}
use Rattle.holds.specs.Holds.{ends_after, hold_in, holds_from}
use Rattle.hold_codec.proofs.all_in_force.Given as goal

abbrev pub invariant-loop-i : goal.invariant-loop-i
invariant-loop-i l = all_of (ends_after l.time) (holds_from l.b l.at l.n) ≡ all_of (ends_after l.time) (row (hold_in l.b l.at) l.i (l.n - l.i))
