-- `child_codec::has_spi_at` meets its contract. The loop's invariant: the children that are left decide.
use Prim.Native.Nat.{ℕ, ◌-◌}
use mathlib.Core.Bool.{Bool}
use mathlib.Core.List.{List}
use mathlib.Core.Path.{◌≡◌}
use Rattle.octets.specs.Row.{row}
use Rattle.children.specs.Children.{child_in, children_from, has_spi}
use Rattle.child_codec.proofs.has_spi_at.Given as goal

-- an SPI is that of one of the children that are left
abbrev pub Left : List ℕ → ℕ → ℕ → ℕ → ℕ → Bool
Left l at n spi i = has_spi spi (row (child_in l at) i (n - i))

abbrev pub invariant-loop-i : goal.invariant-loop-i
invariant-loop-i l = has_spi l.spi (children_from l.b l.at l.n) ≡ Left l.b l.at l.n l.spi l.i
