-- Eight places, one by one.
use Prim.Native.Nat.{ℕ, zero, suc, ◌<◌}
use native.Mathlib.Omega.{arith}

-- what holds of each of eight places holds of every place
pub each_place : (P : ℕ → Type 0) → P 0 → P 1 → P 2 → P 3 → P 4 → P 5 → P 6 → P 7 → (i : ℕ) → i < 8 → P i
each_place P a b c d e f g h zero _ = a
each_place P a b c d e f g h (suc zero) _ = b
each_place P a b c d e f g h (suc (suc zero)) _ = c
each_place P a b c d e f g h (suc (suc (suc zero))) _ = d
each_place P a b c d e f g h (suc (suc (suc (suc zero)))) _ = e
each_place P a b c d e f g h (suc (suc (suc (suc (suc zero))))) _ = f
each_place P a b c d e f g h (suc (suc (suc (suc (suc (suc zero)))))) _ = g
each_place P a b c d e f g h (suc (suc (suc (suc (suc (suc (suc zero))))))) _ = h
each_place P a b c d e f g h (suc (suc (suc (suc (suc (suc (suc (suc i)))))))) less = absurd (omega arith)
