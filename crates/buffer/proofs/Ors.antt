-- An or of two numbers, and a sum of two digits, is zero exactly where both are.
use Prim.Native.Nat.{ℕ, ◌+◌, ◌*◌}
use mathlib.Core.Bool.{Bool, true, false, ◌&&◌}
use mathlib.Core.Path.{◌≡◌, refl, ◌∙◌}
use native.Mathlib.Omega.{arith}
use lib.Bits.{and_le_l, and_le_r, bit_or, or_add_and}
use lib.Dec.{eqb}
use borrow.Author.Tests.{eq-eqb, eqb-true, ne_eqb}
use Rattle.octets.proofs.Search.{either}

both_none : (r a b : ℕ) → (r ≡ 0 → a ≡ 0) → (r ≡ 0 → b ≡ 0) → (a ≡ 0 → b ≡ 0 → r ≡ 0) → eqb r 0 ≡ eqb a 0 && eqb b 0
both_none r a b first second back =
    either r 0
    (λ e. eq-eqb r 0 e ∙ rw (eq-eqb a 0 (first e), eq-eqb b 0 (second e)))
    (λ h. ne_eqb r 0 h ∙ rw (refused (eqb a 0) (eqb b 0) (λ p q. h (back (eqb-true a 0 p) (eqb-true b 0 q)))))
  where
    refused : (s t : Bool) → (s ≡ true → t ≡ true → ⊥) → s && t ≡ false
    refused true true f = absurd (f refl refl)
    refused true false f = refl
    refused false t f = refl

pub or_none : (a b : ℕ) → eqb (bit_or a b) 0 ≡ eqb a 0 && eqb b 0
or_none a b =
    both_none (bit_or a b) a b (λ e. omega (arith, or_add_and a b, and_le_r a b)) (λ e. omega (arith, or_add_and a b, and_le_l a b)) (λ p q. omega (arith, or_add_and a b))

pub sum_none : (a b : ℕ) → eqb (a + b * 256) 0 ≡ eqb a 0 && eqb b 0
sum_none a b = both_none (a + b * 256) a b (λ e. omega arith) (λ e. omega arith) (λ p q. omega arith)
