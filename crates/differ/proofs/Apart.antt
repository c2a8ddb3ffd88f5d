-- What a test of eight places twice over says of any two of them.
use Prim.Native.Nat.{ℕ, zero, suc, ◌+◌, ◌-◌, ◌≤◌, ◌<◌}
use mathlib.Core.Bool.{Bool, true, false, not, ◌&&◌, true≢false}
use mathlib.Core.List.{List}
use mathlib.Core.Path.{◌≡◌, refl, sym, ap, ◌∙◌}
use native.Mathlib.Omega.{arith}
use lib.Dec.{eqb}
use lib.ListN.{get_or}
use borrow.Author.Tests.{eqb-false, ne_eqb, not-true}
use Rattle.differ.specs.Differ.{all_differ, differs_from, differs_on, is_new, places, Twice}
use Rattle.octets.specs.Search.{all}
use Rattle.octets.proofs.Search.{all_each, and_left, and_right, and_true, each_all, lower, never_passes}

-- no two of the places hold the same number
abbrev pub AllDiffer : List ℕ → Type 0
AllDiffer w = (i j : ℕ) → i < j → j < places → get_or w i 0 ≡ get_or w j 0 → ⊥

module _ (w : List ℕ) where
  pub each_differs : all_differ w ≡ true → AllDiffer w
  unfolding all_differ is_new differs_from
  each_differs h i j before within =
      eqb-false (get_or w i 0) (get_or w j 0) (not-true (eqb (get_or w i 0) (get_or w j 0)) (all_each j (differs_from w j) (all_each places (is_new w) h j within) i before))

  all_new : AllDiffer w → all_differ w ≡ true
  unfolding all_differ is_new differs_from
  all_new differ =
      each_all places (is_new w) (λ j within. each_all j (differs_from w j) (λ i before. ap not (ne_eqb (get_or w i 0) (get_or w j 0) (differ i j before within))))

-- a place is another than the one d places on
apart : (v : List ℕ) (d i : ℕ) → differs_on v d i ≡ true → get_or v i 0 ≡ get_or v (i + d) 0 → ⊥
unfolding differs_on
apart v d i t = eqb-false (get_or v i 0) (get_or v (i + d) 0) (not-true (eqb (get_or v i 0) (get_or v (i + d) 0)) t)

-- places that differ from those one to four places on, twice over, differ all, and the other way round
module _ (w v : List ℕ) (doubled : Twice w v) where
  all_apart : ((d : ℕ) → 1 ≤ d → d ≤ 4 → all places (differs_on v d) ≡ true) → AllDiffer w
  all_apart near i j before within e =
      let d = j - i in
      lower 4 d
      (λ far.
      apart v (places - d) j (all_each places (differs_on v (places - d)) (near (places - d) (omega arith) (omega arith)) j within)
      ((doubled j within).0 ∙ sym e ∙ sym (doubled i (omega arith)).1 ∙ ap (λ (k : ℕ). get_or v k 0) (omega arith)))
      (λ close.
      apart v d i (all_each places (differs_on v d) (near d (omega arith) close) i (omega arith))
      ((doubled i (omega arith)).0 ∙ e ∙ sym (doubled j within).0 ∙ ap (λ (k : ℕ). get_or v k 0) (omega arith)))

  near_apart : AllDiffer w → (d : ℕ) → 1 ≤ d → d ≤ 4 → all places (differs_on v d) ≡ true
  unfolding differs_on
  near_apart differ d low high = each_all places (differs_on v d) (λ i within. ap not (ne_eqb (get_or v i 0) (get_or v (i + d) 0) (other i within)))
    where
      other : (i : ℕ) → i < places → get_or v i 0 ≡ get_or v (i + d) 0 → ⊥
      other i within e =
          lower (i + d) places
          (λ ahead. differ i (i + d) (omega arith) ahead (sym (doubled i within).0 ∙ e ∙ (doubled (i + d) ahead).0))
          (λ round.
          let k = i + d - places in
          differ k i (omega arith) within (sym (doubled k (omega arith)).1 ∙ ap (λ (m : ℕ). get_or v m 0) (omega arith) ∙ sym e ∙ (doubled i within).0))

  -- four tests are all of them
  pub four_tests : (a b c d : Bool) → a ≡ all places (differs_on v 1) → b ≡ all places (differs_on v 2) → c ≡ all places (differs_on v 3)
      → d ≡ all places (differs_on v 4) → ((a && b) && c) && d ≡ all_differ w
  four_tests a b c d p q r s = go (((a && b) && c) && d) refl
    where
      go : (t : Bool) → ((a && b) && c) && d ≡ t → t ≡ all_differ w
      go true h = sym (all_new w (all_apart near))
        where
          near : (k : ℕ) → 1 ≤ k → k ≤ 4 → all places (differs_on v k) ≡ true
          near zero low high = absurd (omega arith)
          near (suc zero) low high = sym p ∙ and_left a b (and_left (a && b) c (and_left ((a && b) && c) d h))
          near (suc (suc zero)) low high = sym q ∙ and_right a b (and_left (a && b) c (and_left ((a && b) && c) d h))
          near (suc (suc (suc zero))) low high = sym r ∙ and_right (a && b) c (and_left ((a && b) && c) d h)
          near (suc (suc (suc (suc zero)))) low high = sym s ∙ and_right ((a && b) && c) d h
          near (suc (suc (suc (suc (suc k))))) low high = absurd (omega arith)
      go false h =
          sym (never_passes (all_differ w) (λ e.
          let near = near_apart (each_differs w e) in
          true≢false (sym (and_true ((a && b) && c) d (and_true (a && b) c (and_true a b (p ∙ near 1 (omega arith) (omega arith)) (q ∙ near 2 (omega arith) (omega arith))) (r ∙ near 3 (omega arith) (omega arith))) (s ∙ near 4 (omega arith) (omega arith))) ∙ h)))
