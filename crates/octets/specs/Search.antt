-- Tests over the numbers below a bound and over the elements of a list.
use Rattle.std.specs.Prelude.{ℕ, zero, suc, Bool, true, false, cond, not, ◌&&◌, ◌||◌, List, [], ◌∷◌, ltb}

-- every number below n passes
unfoldable pub all : ℕ → (ℕ → Bool) → Bool
all zero p = true
all (suc n) p = all n p && p n

-- the least number below n that passes, or n where none does
unfoldable pub least : ℕ → (ℕ → Bool) → ℕ
least zero p = zero
least (suc n) p = let k = least n p in cond (ltb k n) k (cond (p n) n (suc n))

-- how many numbers below n pass
unfoldable pub count : ℕ → (ℕ → Bool) → ℕ
count zero p = zero
count (suc n) p = let k = count n p in cond (p n) (suc k) k

module _ {A : Type 0} where
  -- every element of a list passes
  unfoldable pub all_of : (A → Bool) → List A → Bool
  all_of p [] = true
  all_of p (x ∷ xs) = p x && all_of p xs

  -- some element of a list passes
  unfoldable pub any_of : (A → Bool) → List A → Bool
  any_of p [] = false
  any_of p (x ∷ xs) = p x || any_of p xs

  -- no element of a list is alike to one behind it
  unfoldable pub distinct : (A → A → Bool) → List A → Bool
  distinct alike [] = true
  distinct alike (x ∷ xs) = not (any_of (alike x) xs) && distinct alike xs
