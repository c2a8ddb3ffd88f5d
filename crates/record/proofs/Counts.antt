-- How many values stand in a bounded list.
use Prim.Native.Nat.{ℕ}
use mathlib.Core.Path.{◌≡◌}
use native.Mathlib.Omega.{arith}
use lib.ListN.{length}
use lib.Seq.{length-take-le}
use Rattle.bounded.specs.Bounded.{items_of}
use Rattle.bounded.specs.declared.Bounded.{Bounded}

-- as many as the count says, where the array has its places
pub counted : {T : Type 0} {N : ℕ} (b : Bounded T N) → length b.list ≡ N → length (items_of b) ≡ b.count
counted b places = length-take-le b.count b.list (omega (arith, places, b.in_list))
