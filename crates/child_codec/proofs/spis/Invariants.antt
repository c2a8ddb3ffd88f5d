-- `child_codec::spis` meets its contract. The loop's invariant: the SPIs of the children passed stand in their places.
use Prim.Native.Nat.{ℕ, ◌+◌, ◌*◌, ◌<◌}
use mathlib.Core.List.{List}
use mathlib.Core.Path.{◌≡◌}
use lib.ListN.{length, get_or}
use Rattle.octets.specs.Digits.{field}
use Rattle.child_codec.proofs.spis.Given as goal

-- the SPIs of those of the first i children that are below n
abbrev pub Spis : List ℕ → ℕ → ℕ → List ℕ → ℕ → Type 0
Spis l at n w i = (k : ℕ) → k < i → k < n → get_or w k 0 ≡ field l (at + 5 * k) 4

abbrev pub invariant-loop-i : goal.invariant-loop-i
invariant-loop-i l = (length l.w ≡ 8) × Spis l.b l.at l.n l.w l.i
