-- `child_codec::fit_at` meets its contract. The loop's invariant: the children that are left decide.
use Prim.Native.Nat.{ℕ, ◌-◌}
use mathlib.Core.Bool.{Bool}
use mathlib.Core.List.{List}
use mathlib.Core.Path.{◌≡◌}
use Rattle.octets.specs.Row.{row}
use Rattle.octets.specs.Search.{all_of}
use Rattle.children.specs.Children.{child_fits, child_in, children_from}
use Rattle.child_codec.proofs.fit_at.Given as goal

-- the children that are left are in their ranges
abbrev pub Left : List ℕ → ℕ → ℕ → ℕ → Bool
Left l at n i = all_of child_fits (row (child_in l at) i (n - i))

abbrev pub invariant-loop-i : goal.invariant-loop-i
invariant-loop-i l = all_of child_fits (children_from l.b l.at l.n) ≡ Left l.b l.at l.n l.i
