-- The laws of counting the numbers that pass.
use Prim.Native.Nat.{ℕ, zero, suc, ◌<◌}
use mathlib.Core.Bool.{Bool, true, false, cond}
use mathlib.Core.Path.{◌≡◌, refl, sym, ap, ap₂, ◌∙◌}
use native.Mathlib.Nat.{not-suc-le-zero, le_refl, le_step}
use native.Mathlib.Omega.{arith}
use Rattle.octets.specs.Search.{count}
use Rattle.octets.proofs.Search.{either}

pub count_same : (n : ℕ) (p q : ℕ → Bool) → ((k : ℕ) → k < n → p k ≡ q k) → count n p ≡ count n q
unfolding count
count_same zero p q e = refl
count_same (suc n) p q e =
    ap₂ (λ (b : Bool) (k : ℕ). cond b (suc k) k) (e n (le_refl (suc n))) (count_same n p q (λ k h. e k (le_step h)))

pub count_none : (n : ℕ) (p : ℕ → Bool) → ((k : ℕ) → k < n → p k ≡ false) → count n p ≡ 0
unfolding count
count_none zero p e = refl
count_none (suc n) p e = rw (e n (le_refl (suc n))) (count_none n p (λ k h. e k (le_step h)))

-- one number more, the last or one below it
last_more : (b c : Bool) (m k : ℕ) → b ≡ false → c ≡ true → k ≡ m → cond c (suc m) m ≡ suc (cond b (suc k) k)
last_more b c m k out passes e = rw (out, passes) (ap suc (sym e))

below_more : (b c : Bool) (m k : ℕ) → b ≡ c → m ≡ suc k → cond c (suc m) m ≡ suc (cond b (suc k) k)
below_more true c m k same e = rw (sym same) (ap suc e)
below_more false c m k same e = rw (sym same) e

module _ (p q : ℕ → Bool) (k : ℕ) (out : p k ≡ false) (passes : q k ≡ true) (others : (j : ℕ) → (j ≡ k → ⊥) → p j ≡ q j) where
  pub count_more : (n : ℕ) → k < n → count n q ≡ suc (count n p)
  unfolding count
  count_more zero h = absurd (not-suc-le-zero h)
  count_more (suc n) h =
      either n k (λ e. last_more (p n) (q n) (count n q) (count n p) (ap p e ∙ out) (ap q e ∙ passes) (count_same n p q (λ j l. others j (λ m. omega arith))))
      (λ apart. below_more (p n) (q n) (count n q) (count n p) (others n apart) (count_more n (omega arith)))
