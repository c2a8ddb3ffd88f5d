-- `hold_codec::keys` meets its contract. The loop's invariant: the list has what is asked for in the places passed.
use Prim.Native.Nat.{ℕ, ◌+◌, ◌*◌}
use mathlib.Core.Bool.{cond}
use mathlib.Core.List.{List}
use mathlib.Core.Path.{◌≡◌}
use lib.Dec.{eqb, ltb}
use lib.ListN.{length, take}
use Rattle.octets.specs.Row.{row}
use Rattle.addresses.specs.Keys.{key_at}
use Rattle.hold_codec.proofs.keys.Given as goal

-- what stands in a place of the list: a key, or in a free place the other key or the place's number
unfoldable pub keyIn : List ℕ → ℕ → ℕ → ℕ → ℕ → ℕ
keyIn l at n other i = cond (ltb i n) (key_at l (at + 22 * i)) (cond (eqb i 7) other i)

abbrev pub invariant-loop-i : goal.invariant-loop-i
invariant-loop-i l = (length l.list ≡ 8) × (take l.i l.list ≡ row (keyIn l.b l.at l.n l.other) 0 l.i)
