-- Elements by their place in a list: one that passes, and the first that does.
use Rattle.std.specs.Prelude.{None, Some, slice_get}
use Prim.Native.Nat.{ℕ, zero, suc, ◌<◌}
use mathlib.Core.Bool.{Bool, true, false, ◌||◌, false≢true}
use mathlib.Core.List.{List, [], ◌∷◌}
use mathlib.Core.Path.{◌≡◌, refl, sym, ap, ◌∙◌}
use native.Mathlib.Omega.{arith}
use lib.ListN.{length, drop}
use Rattle.octets.specs.Search.{any_of}
use Rattle.octets.specs.Row.{place, first, FirstAt, NonePasses}
use Rattle.octets.proofs.Search.{or_true}
use Rattle.std.proofs.lemmas.Option.{none-some, same_Some}

-- what is left of a list begins with the element at that place
pub left_head : {A : Type 0} (k : ℕ) (l : List A) → slice_get l k ≡ slice_get (drop k l) 0
left_head zero [] = refl
left_head zero (x ∷ l) = refl
left_head (suc k) [] = refl
left_head (suc k) (x ∷ l) = left_head k l

module _ {A : Type 0} (p : A → Bool) where
  -- one element more in front, which fails
  module _ (x : A) (l : List A) (e : p x ≡ false) where
    first_behind : (k : ℕ) (a : A) → FirstAt p l k a → FirstAt p (x ∷ l) (suc k) a
    first_behind k a h = record { there = h.there; passes = h.passes; none_before = before }
      where
        before : (j : ℕ) (b : A) → j < suc k → slice_get (x ∷ l) j ≡ Some b → p b ≡ false
        before zero b less q = ap p (sym (same_Some x b q)) ∙ e
        before (suc j) b less q = h.none_before j b (omega arith) q

    none_behind : NonePasses p l → NonePasses p (x ∷ l)
    none_behind h zero b q = ap p (sym (same_Some x b q)) ∙ e
    none_behind h (suc j) b q = h j b q

  -- the element at the place counted is the first that passes
  pub place_first : (l : List A) (a : A) → slice_get l (place p l) ≡ Some a → FirstAt p l (place p l) a
  unfolding place
  place_first [] a q = absurd (none-some a q)
  place_first (x ∷ l) a q = go (p x) refl (place_first l a)
    where
      go : (t : Bool) → p x ≡ t → (slice_get l (place p l) ≡ Some a → FirstAt p l (place p l) a) → FirstAt p (x ∷ l) (place p (x ∷ l)) a
      go true e rec =
          let here : place p (x ∷ l) ≡ 0 = rw e in
          let same : x ≡ a = same_Some x a (sym (ap (slice_get (x ∷ l)) here) ∙ q) in
          rw here (record { there = ap Some same; passes = sym (ap p same) ∙ e; none_before = λ j b less r. absurd (omega arith) })
      go false e rec =
          let next : place p (x ∷ l) ≡ suc (place p l) = rw e in
          rw next (first_behind x l e (place p l) a (rec (sym (ap (slice_get (x ∷ l)) next) ∙ q)))

  -- no element stands at the place counted, where none passes
  pub place_past : (l : List A) → slice_get l (place p l) ≡ None → (place p l ≡ length l) × NonePasses p l
  unfolding place
  place_past [] q = (refl, λ j b r. absurd (none-some b r))
  place_past (x ∷ l) q = go (p x) refl (place_past l)
    where
      go : (t : Bool) → p x ≡ t → (slice_get l (place p l) ≡ None → (place p l ≡ length l) × NonePasses p l) → (place p (x ∷ l) ≡ length (x ∷ l)) × NonePasses p (x ∷ l)
      go true e rec =
          let here : place p (x ∷ l) ≡ 0 = rw e in
          absurd (none-some x (sym q ∙ ap (slice_get (x ∷ l)) here))
      go false e rec =
          let next : place p (x ∷ l) ≡ suc (place p l) = rw e in
          let rest = rec (sym (ap (slice_get (x ∷ l)) next) ∙ q) in
          (next ∙ ap suc rest.0, none_behind x l e rest.1)

  -- the first element that passes is the one at the place counted
  pub first_place : (l : List A) → first p l ≡ slice_get l (place p l)
  unfolding first place
  first_place [] = refl
  first_place (x ∷ l) = go (p x) refl (first_place l)
    where
      go : (t : Bool) → p x ≡ t → first p l ≡ slice_get l (place p l) → first p (x ∷ l) ≡ slice_get (x ∷ l) (place p (x ∷ l))
      go true e rec = rw e
      go false e rec = rw e rec

  -- some element passes exactly where the one at some place does
  pub any_at : (l : List A) → any_of p l ≡ true → (i : ℕ) × (a : A) × (slice_get l i ≡ Some a) × (p a ≡ true)
  unfolding any_of
  any_at [] q = absurd (false≢true q)
  any_at (x ∷ l) q = go (p x) refl q (any_at l)
    where
      go : (t : Bool) → p x ≡ t → t || any_of p l ≡ true → (any_of p l ≡ true → (i : ℕ) × (a : A) × (slice_get l i ≡ Some a) × (p a ≡ true))
          → (i : ℕ) × (a : A) × (slice_get (x ∷ l) i ≡ Some a) × (p a ≡ true)
      go true e r rec = (0, x, refl, e)
      go false e r rec = let behind = rec r in (suc behind.0, behind.1, behind.2, behind.3)

  pub at_any : (l : List A) (i : ℕ) (a : A) → slice_get l i ≡ Some a → p a ≡ true → any_of p l ≡ true
  unfolding any_of
  at_any [] i a q e = absurd (none-some a q)
  at_any (x ∷ l) zero a q e = ap (λ (t : Bool). t || any_of p l) (ap p (same_Some x a q) ∙ e)
  at_any (x ∷ l) (suc i) a q e = or_true (p x) (any_of p l) (at_any l i a q e)
