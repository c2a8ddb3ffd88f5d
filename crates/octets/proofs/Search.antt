-- The laws of tests over an index and of the least number that passes.
use Prim.Native.Nat.{ℕ, zero, suc, ◌+◌, ◌≤◌, ◌<◌}
use mathlib.Core.Bool.{Bool, true, false, cond, ◌&&◌, ◌||◌, false≢true, true≢false}
use mathlib.Core.Logic.{⊎_elim}
use mathlib.Core.Path.{◌≡◌, refl, sym, ap, ◌∙◌, subst}
use native.Mathlib.Nat.{add-zero, zero-add, not-suc-le-zero, le_of_suc-le-suc, eq-or-lt_of_le, le_refl, le_step, le-suc, lt_of_lt_of_le, not-le_of_lt}
use native.Mathlib.Numerals.{add-one}
use native.Mathlib.Omega.{arith}
use lib.Dec.{leb, ltb, eqb}
use borrow.Author.Tests.{lt-ltb, le-ltb, le-leb, ltb-true, ltb-false, leb-true, eqb-true, eqb-false, eq-eqb, ne_eqb}
use Rattle.std.proofs.Math.Bool.{and_assoc}
use Rattle.std.specs.List.{list_all, range_with_len}
use Rattle.octets.specs.Search.{all, least}

pub and_left : (a b : Bool) → a && b ≡ true → a ≡ true
and_left true b e = refl
and_left false b e = e

pub and_right : (a b : Bool) → a && b ≡ true → b ≡ true
and_right true b e = e
and_right false b e = absurd (false≢true e)

pub and_true : (a b : Bool) → a ≡ true → b ≡ true → a && b ≡ true
and_true a b p q = ap (λ (t : Bool). t && b) p ∙ q

pub and_false : (a b : Bool) → b ≡ false → a && b ≡ false
and_false true b e = e
and_false false b e = refl

-- a test that passes adds nothing
pub and_last : (b : Bool) → b && true ≡ b
and_last true = refl
and_last false = refl

-- a test that cannot pass fails
pub never_passes : (b : Bool) → (b ≡ true → ⊥) → b ≡ false
never_passes true h = absurd (h refl)
never_passes false h = refl

pub or_left : (a b : Bool) → a || b ≡ false → a ≡ false
or_left true b e = absurd (true≢false e)
or_left false b e = refl

pub or_right : (a b : Bool) → a || b ≡ false → b ≡ false
or_right true b e = absurd (true≢false e)
or_right false b e = e

-- where neither of two tests passes
pub or_both : (a b : Bool) → a ≡ false → b ≡ false → a || b ≡ false
or_both a b e f = ap (λ (t : Bool). t || b) e ∙ f

-- where one of two tests passes and it isn't the first
pub or_other : (a b : Bool) → a || b ≡ true → a ≡ false → b ≡ true
or_other true b e f = absurd (true≢false f)
or_other false b e f = e

-- where the second test passes, so does another in its place
pub or_second : (a b c : Bool) → (b ≡ true → c ≡ true) → a || b ≡ true → a || c ≡ true
or_second true b c h e = refl
or_second false b c h e = h e

pub or_true : (a b : Bool) → b ≡ true → a || b ≡ true
or_true true b e = refl
or_true false b e = e

-- a number is k or it isn't
pub either : {A : Type 0} (n k : ℕ) → (n ≡ k → A) → ((n ≡ k → ⊥) → A) → A
either {A} n k f g = by_test (eqb n k) refl
  where
    by_test : (b : Bool) → eqb n k ≡ b → A
    by_test true e = f (eqb-true n k e)
    by_test false e = g (eqb-false n k e)

-- a number is below k or it isn't
pub lower : {A : Type 0} (n k : ℕ) → (n < k → A) → (k ≤ n → A) → A
lower {A} n k f g = by_test (ltb n k) refl
  where
    by_test : (b : Bool) → ltb n k ≡ b → A
    by_test true e = f (ltb-true n k e)
    by_test false e = g (ltb-false n k e)

-- a smaller number passes each bound
pub smaller : (m n k : ℕ) → m ≤ n → leb n k ≡ true → leb m k ≡ true
smaller m n k h e = le-leb m k (omega (arith, leb-true n k e))

-- the test of equality goes both ways
pub eqb_turned : (m n : ℕ) → eqb m n ≡ eqb n m
eqb_turned m n = either m n (λ e. eq-eqb m n e ∙ sym (eq-eqb n m (sym e))) (λ h. ne_eqb m n h ∙ sym (ne_eqb n m (λ e. h (sym e))))

-- what passes in both cases passes
pub cond_passes : {A : Type 0} (p : A → Bool) (b : Bool) (x y : A) → p x ≡ true → p y ≡ true → p (cond b x y) ≡ true
cond_passes p true x y e f = e
cond_passes p false x y e f = f

pub all_each : (n : ℕ) (p : ℕ → Bool) → all n p ≡ true → (k : ℕ) → k < n → p k ≡ true
unfolding all
all_each zero p e k h = absurd (not-suc-le-zero h)
all_each (suc n) p e k h =
    ⊎_elim (λ q. ap p q ∙ and_right (all n p) (p n) e) (λ l. all_each n p (and_left (all n p) (p n) e) k l)
    (eq-or-lt_of_le (le_of_suc-le-suc h))

pub each_all : (n : ℕ) (p : ℕ → Bool) → ((k : ℕ) → k < n → p k ≡ true) → all n p ≡ true
unfolding all
each_all zero p h = refl
each_all (suc n) p h = and_true (all n p) (p n) (each_all n p (λ k l. h k (le_step l))) (h n (le_refl (suc n)))

-- one number more passes
pub all_more : (n : ℕ) (p : ℕ → Bool) → all n p ≡ true → p n ≡ true → all (n + 1) p ≡ true
unfolding all
all_more n p h e = rw add-one (and_true (all n p) (p n) h e)

-- one number fails
pub all_fails : (n : ℕ) (p : ℕ → Bool) (i : ℕ) → i < n → p i ≡ false → all n p ≡ false
all_fails n p i h f = decide (all n p) refl
  where
    decide : (t : Bool) → all n p ≡ t → all n p ≡ false
    decide true q = absurd (true≢false (sym (all_each n p q i h) ∙ f))
    decide false q = q

-- nothing so far and the next number fails: nothing so far
pub least_more : (n : ℕ) (p : ℕ → Bool) → least n p ≡ n → p n ≡ false → least (suc n) p ≡ suc n
unfolding least
least_more n p e f = simp (e, le-ltb n n (le_refl n), f)

-- nothing so far and the next number passes: it is the least
pub least_here : (n : ℕ) (p : ℕ → Bool) → least n p ≡ n → p n ≡ true → least (suc n) p ≡ n
unfolding least
least_here n p e t = simp (e, le-ltb n n (le_refl n), t)

-- what is found stays found
pub least_stays : (n : ℕ) (p : ℕ → Bool) (k : ℕ) → least n p ≡ k → k < n → least (suc n) p ≡ k
unfolding least
least_stays n p k e h = simp (e, lt-ltb k n h)

-- what is found below a bound is found below every larger one
pub least_found : (n : ℕ) (p : ℕ → Bool) (k : ℕ) → least k p ≡ k → p k ≡ true → k < n → least n p ≡ k
least_found zero p k e t h = absurd (not-suc-le-zero h)
least_found (suc n) p k e t h =
    ⊎_elim (λ q. subst (λ (m : ℕ). least (suc m) p ≡ k) q (least_here k p e t)) (λ l. least_stays n p k (least_found n p k e t l) l)
    (eq-or-lt_of_le (le_of_suc-le-suc h))

-- the three cases of one number more
module _ (n : ℕ) (p : ℕ → Bool) (P : ℕ → Type 0) (stays : least n p < n → P (least n p)) (here : n ≤ least n p → p n ≡ true → P n) (more : n ≤ least n p → p n ≡ false → P (suc n)) where
  least_cases : P (least (suc n) p)
  unfolding least
  least_cases = found (ltb (least n p) n) refl
    where
      next : (t : Bool) → p n ≡ t → n ≤ least n p → P (cond t n (suc n))
      next true e h = here h e
      next false e h = more h e

      found : (t : Bool) → ltb (least n p) n ≡ t → P (cond t (least n p) (cond (p n) n (suc n)))
      found true e = stays (ltb-true (least n p) n e)
      found false e = next (p n) refl (ltb-false (least n p) n e)

pub least_bound : (n : ℕ) (p : ℕ → Bool) → least n p ≤ n
unfolding least
least_bound zero p = le_refl 0
least_bound (suc n) p = least_cases n p (λ k. k ≤ suc n) (λ h. omega arith) (λ h e. le-suc n) (λ h e. le_refl (suc n))

pub least_passes : (n : ℕ) (p : ℕ → Bool) → least n p < n → p (least n p) ≡ true
unfolding least
least_passes zero p h = absurd (not-suc-le-zero h)
least_passes (suc n) p h =
    least_cases n p (λ k. k < suc n → p k ≡ true) (λ l _. least_passes n p l) (λ l e _. e) (λ l e q. absurd (not-le_of_lt q (le_refl (suc n)))) h

pub least_first : (n : ℕ) (p : ℕ → Bool) (k : ℕ) → k < least n p → p k ≡ false
unfolding least
least_first zero p k h = absurd (not-suc-le-zero h)
least_first (suc n) p k h =
    least_cases n p (λ m. k < m → p k ≡ false) (λ l q. least_first n p k q) (λ l e q. least_first n p k (lt_of_lt_of_le q l))
    (λ l e q. ⊎_elim (λ i. ap p i ∙ e) (λ i. least_first n p k (lt_of_lt_of_le i l)) (eq-or-lt_of_le (le_of_suc-le-suc q))) h

-- the numbers of a range, tested from its first one on
ranged : (p : ℕ → Bool) (a n : ℕ) → list_all p (range_with_len a (suc n)) ≡ list_all p (range_with_len a n) && p (a + n)
ranged p a zero = rw add-zero (and_last (p a))
ranged p a (suc n) = ap (λ (t : Bool). p a && t) (ranged p (a + 1) n) ∙ (let e : a + 1 + n ≡ a + suc n = omega arith in rw e (sym (and_assoc (p a) (list_all p (range_with_len (a + 1) n)) (p (a + suc n)))))

pub all_range : (n : ℕ) (p : ℕ → Bool) → list_all p (range_with_len 0 n) ≡ all n p
unfolding all
all_range zero p = refl
all_range (suc n) p = ranged p 0 n ∙ rw (all_range n p, zero-add n)
