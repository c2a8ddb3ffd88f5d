-- `child_codec::read_child` meets its contract: two numbers, one behind the other.
use Prim.Native.Nat.{ℕ}
use mathlib.Core.Path.{ap₂}
use Rattle.children.specs.declared.Child.{Child}
use Rattle.children.specs.Children.{child_from}
use Rattle.child_codec.proofs.read_child.Goals as goal

pub returns : goal.returns
unfolding child_from
returns c = ap₂ {C = Child} (λ (m n : ℕ). record { spi = m; session = n }) c.get.ensures.0 c.get-2.ensures.0
