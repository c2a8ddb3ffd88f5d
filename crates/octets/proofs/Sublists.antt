-- The laws of the elements of a list that pass a test, of one element more at its end, and of a loop that keeps those that pass.
use Prim.Native.Nat.{ℕ, suc, ◌+◌, ◌≤◌, ◌<◌}
use mathlib.Core.Bool.{Bool, true, false, not, ◌&&◌, ◌||◌, false≢true}
use mathlib.Core.List.{List, [], ◌∷◌, ◌++◌, map}
use mathlib.Core.Path.{◌≡◌, refl, ap, ap₂, ◌∙◌}
use native.Mathlib.Nat.{le_refl, le-suc}
use native.Mathlib.Numerals.{add-one}
use native.Mathlib.Omega.{arith}
use lib.ListN.{length, get_or, set, take}
use lib.Seq.{take-suc, take-suc-set}
use borrow.Author.Tests.{not-true}
use Rattle.octets.specs.Row.{keep, only}
use Rattle.octets.specs.Search.{all_of, any_of, distinct}
use Rattle.octets.proofs.Search.{and_false, and_left, and_right, and_true, or_both, or_left, or_right, or_true}

module _ {A : Type 0} where
  -- one element more, where it is kept
  keep_passes : (q : A → Bool) (t : Bool) (x : A) (xs : List A) → (t ≡ true → q x ≡ true) → all_of q xs ≡ true → all_of q (keep t x xs) ≡ true
  unfolding keep all_of
  keep_passes q true x xs h k = and_true (q x) (all_of q xs) (h refl) k
  keep_passes q false x xs h k = k

  keep_fails : (q : A → Bool) (t : Bool) (x : A) (xs : List A) → q x ≡ false → any_of q xs ≡ false → any_of q (keep t x xs) ≡ false
  unfolding keep any_of
  keep_fails q true x xs h k = or_both (q x) (any_of q xs) h k
  keep_fails q false x xs h k = k

  keep_distinct : (alike : A → A → Bool) (t : Bool) (x : A) (xs : List A) → any_of (alike x) xs ≡ false → distinct alike xs ≡ true
      → distinct alike (keep t x xs) ≡ true
  unfolding keep distinct
  keep_distinct alike true x xs h k = and_true (not (any_of (alike x) xs)) (distinct alike xs) (ap not h) k
  keep_distinct alike false x xs h k = k

  keep_length : (t : Bool) (x : A) (xs : List A) → length (keep t x xs) ≤ suc (length xs)
  unfolding keep
  keep_length true x xs = le_refl (suc (length xs))
  keep_length false x xs = le-suc (length xs)

  keep_append : (t : Bool) (x : A) (l m : List A) → keep t x (l ++ m) ≡ keep t x l ++ m
  unfolding keep
  keep_append true x l m = refl
  keep_append false x l m = refl

  -- what is left of a list
  module _ (p : A → Bool) where
    -- each element that is left passes
    pub only_passes : (l : List A) → all_of p (only p l) ≡ true
    unfolding only all_of
    only_passes [] = refl
    only_passes (x ∷ l) = keep_passes p (p x) x (only p l) (λ e. e) (only_passes l)

    -- a test that every element passes
    pub only_all : (q : A → Bool) (l : List A) → all_of q l ≡ true → all_of q (only p l) ≡ true
    unfolding only all_of
    only_all q [] h = refl
    only_all q (x ∷ l) h = keep_passes q (p x) x (only p l) (λ e. and_left (q x) (all_of q l) h) (only_all q l (and_right (q x) (all_of q l) h))

    -- a test that no element passes
    pub only_none : (q : A → Bool) (l : List A) → any_of q l ≡ false → any_of q (only p l) ≡ false
    unfolding only any_of
    only_none q [] h = refl
    only_none q (x ∷ l) h = keep_fails q (p x) x (only p l) (or_left (q x) (any_of q l) h) (only_none q l (or_right (q x) (any_of q l) h))

    -- elements that differ
    pub only_distinct : (alike : A → A → Bool) (l : List A) → distinct alike l ≡ true → distinct alike (only p l) ≡ true
    unfolding only distinct
    only_distinct alike [] h = refl
    only_distinct alike (x ∷ l) h =
        let apart = not-true (any_of (alike x) l) (and_left (not (any_of (alike x) l)) (distinct alike l) h) in
        keep_distinct alike (p x) x (only p l) (only_none (alike x) l apart) (only_distinct alike l (and_right (not (any_of (alike x) l)) (distinct alike l) h))

    -- no more elements are left than there were
    pub only_length : (l : List A) → length (only p l) ≤ length l
    unfolding only
    only_length [] = le_refl 0
    only_length (x ∷ l) = omega (arith, keep_length (p x) x (only p l), only_length l)

    -- one element more at the end
    only_last : (l : List A) (y : A) → only p (l ++ y ∷ []) ≡ only p l ++ keep (p y) y []
    unfolding only
    only_last [] y = refl
    only_last (x ∷ l) y = ap (keep (p x) x) (only_last l y) ∙ keep_append (p x) x (only p l) (keep (p y) y [])

    pub only_next : (l : List A) (i : ℕ) (d : A) → i < length l → only p (take (i + 1) l) ≡ only p (take i l) ++ keep (p (get_or l i d)) (get_or l i d) []
    only_next l i d h = ap (λ (k : ℕ). only p (take k l)) (add-one i) ∙ ap (only p) (take-suc l i d h) ∙ only_last (take i l) (get_or l i d)

  -- an element stored behind the first n
  pub stored_behind : (l : List A) (n : ℕ) (y : A) → n < length l → take (n + 1) (set l n y) ≡ take n l ++ y ∷ []
  stored_behind l n y h = ap (λ (k : ℕ). take k (set l n y)) (add-one n) ∙ take-suc-set l n y h

  -- one element more at the end
  pub all_last : (q : A → Bool) (l : List A) (y : A) → all_of q l ≡ true → q y ≡ true → all_of q (l ++ y ∷ []) ≡ true
  unfolding all_of
  all_last q [] y h e = and_true (q y) true e refl
  all_last q (x ∷ l) y h e = and_true (q x) (all_of q (l ++ y ∷ [])) (and_left (q x) (all_of q l) h) (all_last q l y (and_right (q x) (all_of q l) h) e)

  none_last : (q : A → Bool) (l : List A) (y : A) → any_of q l ≡ false → q y ≡ false → any_of q (l ++ y ∷ []) ≡ false
  unfolding any_of
  none_last q [] y h e = or_both (q y) false e refl
  none_last q (x ∷ l) y h e = or_both (q x) (any_of q (l ++ y ∷ [])) (or_left (q x) (any_of q l) h) (none_last q l y (or_right (q x) (any_of q l) h) e)

  some_later : (q : A → Bool) (l : List A) (y : A) (r : List A) → q y ≡ true → any_of q (l ++ y ∷ r) ≡ true
  unfolding any_of
  some_later q [] y r e = ap (λ (t : Bool). t || any_of q r) e
  some_later q (x ∷ l) y r e = or_true (q x) (any_of q (l ++ y ∷ r)) (some_later q l y r e)

  -- an element that is alike to none of those before it
  pub distinct_last : (alike : A → A → Bool) → ((a b : A) → alike a b ≡ alike b a) → (l : List A) (y : A) → any_of (alike y) l ≡ false
      → distinct alike l ≡ true → distinct alike (l ++ y ∷ []) ≡ true
  unfolding distinct any_of
  distinct_last alike turned [] y h k = refl
  distinct_last alike turned (x ∷ l) y h k =
      let apart = not-true (any_of (alike x) l) (and_left (not (any_of (alike x) l)) (distinct alike l) k) in
      let last = turned x y ∙ or_left (alike y x) (any_of (alike y) l) h in
      and_true (not (any_of (alike x) (l ++ y ∷ []))) (distinct alike (l ++ y ∷ [])) (ap not (none_last (alike x) l y apart last))
      (distinct_last alike turned l y (or_right (alike y x) (any_of (alike y) l) h) (and_right (not (any_of (alike x) l)) (distinct alike l) k))

  -- an element that is alike to one before it
  pub distinct_repeats : (alike : A → A → Bool) → ((a b : A) → alike a b ≡ alike b a) → (l : List A) (y : A) (r : List A) → any_of (alike y) l ≡ true
      → distinct alike (l ++ y ∷ r) ≡ false
  unfolding distinct any_of
  distinct_repeats alike turned [] y r h = absurd (false≢true h)
  distinct_repeats alike turned (x ∷ l) y r h = go (alike y x) refl h (distinct_repeats alike turned l y r)
    where
      go : (t : Bool) → alike y x ≡ t → t || any_of (alike y) l ≡ true → (any_of (alike y) l ≡ true → distinct alike (l ++ y ∷ r) ≡ false)
          → not (any_of (alike x) (l ++ y ∷ r)) && distinct alike (l ++ y ∷ r) ≡ false
      go true e k rest = ap (λ (t : Bool). not t && distinct alike (l ++ y ∷ r)) (some_later (alike x) l y r (turned x y ∙ e))
      go false e k rest = and_false (not (any_of (alike x) (l ++ y ∷ r))) (distinct alike (l ++ y ∷ r)) (rest k)

-- tests of values of the elements
module _ {A B : Type 0} (f : A → B) where
  pub any_map : (q : B → Bool) (l : List A) → any_of q (map f l) ≡ any_of (λ x. q (f x)) l
  unfolding any_of
  any_map q [] = refl
  any_map q (x ∷ l) = ap (λ (t : Bool). q (f x) || t) (any_map q l)

  pub distinct_map : (alike : B → B → Bool) (l : List A) → distinct alike (map f l) ≡ distinct (λ x y. alike (f x) (f y)) l
  unfolding distinct
  distinct_map alike [] = refl
  distinct_map alike (x ∷ l) = ap₂ (λ (s t : Bool). not s && t) (any_map (alike (f x)) l) (distinct_map alike l)
