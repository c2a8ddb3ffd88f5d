-- Lists of anything: values by number, the elements that pass a test, and the first of them.
use Rattle.std.specs.Prelude.{ℕ, zero, suc, ◌<◌, Bool, true, false, cond, List, [], ◌∷◌, ◌++◌, ◌≡◌, Option, None, Some, slice_get}

module _ {A : Type 0} where
  -- n values of f, the one at k first
  unfoldable pub row : (ℕ → A) → ℕ → ℕ → List A
  row f k zero = []
  row f k (suc n) = f k ∷ row f (suc k) n

  -- the octets of each element, one after another
  unfoldable pub joined : (A → List ℕ) → List A → List ℕ
  joined f [] = []
  joined f (x ∷ xs) = f x ++ joined f xs

  -- how many elements stand before the first that passes: all of them where none does
  unfoldable pub place : (A → Bool) → List A → ℕ
  place p [] = 0
  place p (x ∷ xs) = cond (p x) 0 (suc (place p xs))

  -- the first element that passes
  unfoldable pub first : (A → Bool) → List A → Option A
  first p [] = None
  first p (x ∷ xs) = cond (p x) (Some x) (first p xs)

  -- one element more, where it passes
  unfoldable pub keep : Bool → A → List A → List A
  keep true x xs = x ∷ xs
  keep false x xs = xs

  -- the elements that pass
  unfoldable pub only : (A → Bool) → List A → List A
  only p [] = []
  only p (x ∷ xs) = keep (p x) x (only p xs)

  -- a is the element at k, it passes, and no element before it does
  pub record FirstAt (p : A → Bool) (l : List A) (k : ℕ) (a : A) : Type 0 where
    pub there : slice_get l k ≡ Some a
    pub passes : p a ≡ true
    pub none_before : (j : ℕ) (b : A) → j < k → slice_get l j ≡ Some b → p b ≡ false

  -- no element passes
  abbrev pub NonePasses : (A → Bool) → List A → Type 0
  NonePasses p l = (j : ℕ) (b : A) → slice_get l j ≡ Some b → p b ≡ false
