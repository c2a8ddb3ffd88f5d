-- Elements of equally many octets, one behind the other, and zeros in the places that they leave.
use Prim.Native.Nat.{ℕ, zero, suc, ◌+◌, ◌-◌, ◌*◌, ◌≤◌, ◌<◌, zero-le}
use mathlib.Core.Bool.{Bool, true}
use mathlib.Core.List.{List, [], ◌∷◌, ◌++◌, append-nil}
use mathlib.Core.Path.{◌≡◌, refl, sym, ap, ap₂, ◌∙◌, subst}
use native.Mathlib.Nat.{add-zero, zero-add, mul-zero, mul-suc, le_refl, mul-le-mul_left}
use native.Mathlib.Omega.{arith}
use lib.ListN.{length, drop}
use Rattle.octets.specs.Part.{part, padded, zeros, zeros_at}
use Rattle.octets.specs.Row.{row, joined}
use Rattle.octets.specs.Search.{all, all_of}
use Rattle.octets.proofs.Fields.{follow, zeros_back}
use Rattle.octets.proofs.Parts.{padded_length}
use Rattle.octets.proofs.Rows.{row_last, joined_append, length_joined, length_row}
use Rattle.octets.proofs.Search.{and_left, and_right, each_all, either}
use Rattle.octets.proofs.Stands.{Stands, from_part, before, behind, zeros_stand}

-- the place behind an element is that of the next one
next : (at w i : ℕ) → at + w * i + w ≡ at + w * suc i
next at w i = omega (arith, mul-suc w i)

-- elements that are written as the octets of their places
pub joined_back : {A : Type 0} (g : A → List ℕ) (w : ℕ) (l : List ℕ) (at : ℕ) (f : ℕ → A) (n : ℕ)
    → ((k : ℕ) → k < n → g (f k) ≡ part l (at + w * k) w) → joined g (row f 0 n) ≡ part l at (w * n)
unfolding row joined part
joined_back g w l at f zero each = sym (ap (part l at) (mul-zero w))
joined_back g w l at f (suc n) each =
    let last : joined g (f (0 + n) ∷ []) ≡ part l (at + w * n) w = append-nil (g (f (0 + n))) ∙ ap (λ (k : ℕ). g (f k)) (zero-add n) ∙ each n (le_refl (suc n)) in
    ap (joined g) (row_last f 0 n) ∙ joined_append g (row f 0 n) (f (0 + n) ∷ [])
    ∙ follow l at (w * n) w (joined_back g w l at f n (λ k h. each k (omega arith))) last ∙ ap (part l at) (sym (mul-suc w n))

module _ {A : Type 0} (g : A → List ℕ) (w : ℕ) (wide : (x : A) → length (g x) ≡ w) (l : List ℕ) (at : ℕ) where
  -- elements that pass a test, each read back from its place, where a second test passes
  module _ (ok : A → Bool) (f : ℕ → A) (p : ℕ → Bool)
      (each : (i : ℕ) (x : A) (r : List ℕ) → ok x ≡ true → Stands l (at + w * i) (g x) r → (f i ≡ x) × (p i ≡ true)) where
    abbrev Back : ℕ → List A → Type 0
    Back i xs = (row f i (length xs) ≡ xs) × ((k : ℕ) → i ≤ k → k < i + length xs → p k ≡ true)

    each_back : (i : ℕ) (xs : List A) (r : List ℕ) → all_of ok xs ≡ true → Stands l (at + w * i) (joined g xs) r → Back i xs
    unfolding row joined all_of
    each_back i [] r h e = (refl, λ k a b. absurd (omega arith))
    each_back i (x ∷ xs) r h e =
        let here = each i x (joined g xs ++ r) (and_left (ok x) (all_of ok xs) h) (before (g x) (joined g xs) e) in
        let stands = subst (λ (k : ℕ). Stands l k (joined g xs) r) (next at w i) (behind (g x) (joined g xs) w (wide x) e) in
        let rest = each_back (suc i) xs r (and_right (ok x) (all_of ok xs) h) stands in (
          ap₂ (λ (y : A) (ys : List A). y ∷ ys) here.0 rest.0,
          λ k a b. either k i (λ q. ap p q ∙ here.1) (λ q. rest.1 k (omega arith) (omega arith)),
        )

    -- the same of elements that begin at the first place and are padded to m octets
    pub padded_back : (m : ℕ) (xs : List A) → all_of ok xs ≡ true → part l at m ≡ padded m (joined g xs)
        → (row f 0 (length xs) ≡ xs) × (all (length xs) p ≡ true) × (zeros_at l (at + w * length xs) (m - w * length xs) ≡ true)
    unfolding padded
    padded_back m xs h e =
        let size : length (joined g xs) ≡ w * length xs = length_joined g w wide xs in
        let left = zeros (m - length (joined g xs)) in
        let stands = from_part l at m (joined g xs ++ left) e in
        let start : at ≡ at + w * 0 = sym (ap (λ (k : ℕ). at + k) (mul-zero w) ∙ add-zero at) in
        let back = each_back 0 xs (left ++ drop m (drop at l)) h (subst (λ (k : ℕ). Stands l k (joined g xs) (left ++ drop m (drop at l))) start (before (joined g xs) left stands)) in
        let none = zeros_stand (m - length (joined g xs)) (behind (joined g xs) left (w * length xs) size stands) in
        (back.0, each_all (length xs) p (λ k b. back.1 k zero-le (omega arith)), subst (λ (k : ℕ). zeros_at l (at + w * length xs) (m - k) ≡ true) size none)

  module _ (f : ℕ → A) where
    pub padded_octets : (m n : ℕ) → w * n ≤ m → ((k : ℕ) → k < n → g (f k) ≡ part l (at + w * k) w) → zeros_at l (at + w * n) (m - w * n) ≡ true
        → padded m (joined g (row f 0 n)) ≡ part l at m
    unfolding padded
    padded_octets m n h each none =
        let size : length (joined g (row f 0 n)) ≡ w * n = length_joined g w wide (row f 0 n) ∙ ap (λ (k : ℕ). w * k) (length_row f 0 n) in
        let total : w * n + (m - w * n) ≡ m = omega arith in
        ap (λ (k : ℕ). joined g (row f 0 n) ++ zeros (m - k)) size
        ∙ follow l at (w * n) (m - w * n) (joined_back g w l at f n each) (zeros_back l (at + w * n) (m - w * n) none) ∙ ap (part l at) total

-- at most n elements of w octets have m octets, padded
pub padded_count : {A : Type 0} (g : A → List ℕ) (w : ℕ) → ((x : A) → length (g x) ≡ w) → (m n : ℕ) → w * n ≡ m → (xs : List A) → length xs ≤ n
    → length (padded m (joined g xs)) ≡ m
padded_count g w wide m n e xs h =
    let size : length (joined g xs) ≡ w * length xs = length_joined g w wide xs in
    padded_length m (joined g xs) (rw (size, ← e) (mul-le-mul_left w h))
