-- Fields of a list of octets: written back as the octets that they were read from, and parts that follow one another.
use Prim.Native.Nat.{ℕ, zero, suc, ◌+◌, ◌*◌, ◌^◌, ◌≤◌, ◌<◌}
use mathlib.Core.Bool.{Bool, true}
use mathlib.Core.List.{List, [], ◌∷◌, ◌++◌}
use mathlib.Core.Path.{◌≡◌, refl, sym, ap, ap₂, ◌∙◌, subst}
use lib.ListN.{length, take, drop}
use lib.Seq.{take-add, drop-drop, take-length}
use Rattle.octets.specs.Digits.{be, field, number, number_from}
use Rattle.octets.specs.Laws.{below}
use Rattle.octets.specs.Part.{part, zeros, zeros_at}
use Rattle.octets.specs.Search.{all_of}
use Rattle.octets.proofs.Digits.{digits_number, number_below, number_halves}
use Rattle.octets.proofs.Parts.{length_part, same_equal}
use Rattle.octets.proofs.Search.{and_left, and_right, and_true}

module _ (p : ℕ → Bool) where
  all_of_take : (n : ℕ) (l : List ℕ) → all_of p l ≡ true → all_of p (take n l) ≡ true
  unfolding all_of
  all_of_take zero l h = refl
  all_of_take (suc n) [] h = refl
  all_of_take (suc n) (x ∷ l) h = and_true (p x) (all_of p (take n l)) (and_left (p x) (all_of p l) h) (all_of_take n l (and_right (p x) (all_of p l) h))

  all_of_drop : (n : ℕ) (l : List ℕ) → all_of p l ≡ true → all_of p (drop n l) ≡ true
  unfolding all_of
  all_of_drop zero l h = h
  all_of_drop (suc n) [] h = refl
  all_of_drop (suc n) (x ∷ l) h = all_of_drop n l (and_right (p x) (all_of p l) h)

  pub all_of_part : (l : List ℕ) (at n : ℕ) → all_of p l ≡ true → all_of p (part l at n) ≡ true
  unfolding part
  all_of_part l at n h = all_of_take n (drop at l) (all_of_drop at l h)

module _ (l : List ℕ) (at n : ℕ) (fits : at + n ≤ length l) (octets : all_of (below 256) (part l at n) ≡ true) where
  -- n octets say a number of n octets
  pub part_below : field l at n < 256 ^ n
  unfolding field
  part_below = subst (λ (k : ℕ). field l at n < 256 ^ k) (length_part l at n fits) (number_below 256 (part l at n) octets)

  -- a field is written as its octets
  pub be_part : be n (field l at n) ≡ part l at n
  unfolding be field
  be_part = ap (λ (k : ℕ). be k (field l at n)) (sym (length_part l at n fits)) ∙ digits_number 256 (part l at n) octets

-- the same in a list of octets
module _ (l : List ℕ) (octets : all_of (below 256) l ≡ true) (at n : ℕ) (fits : at + n ≤ length l) where
  pub field_below : field l at n < 256 ^ n
  field_below = part_below l at n fits (all_of_part (below 256) l at n octets)

  pub be_field : be n (field l at n) ≡ part l at n
  be_field = be_part l at n fits (all_of_part (below 256) l at n octets)

-- a number that a field says is written as the field's octets
pub number_back : (l : List ℕ) → all_of (below 256) l ≡ true → (at w x : ℕ) → at + w ≤ length l → field l at w ≡ x → be w x ≡ part l at w
number_back l octets at w x h e = ap (be w) (sym e) ∙ be_field l octets at w h

-- zeros say zero
pub number_zeros : (n : ℕ) → number 256 (zeros n) ≡ 0
unfolding number number_from zeros
number_zeros zero = refl
number_zeros (suc n) = number_zeros n

pub zeros_back : (l : List ℕ) (at n : ℕ) → zeros_at l at n ≡ true → zeros n ≡ part l at n
unfolding zeros_at
zeros_back l at n e = sym (same_equal (part l at n) (zeros n) e)

-- parts that follow one another are one part
pub part_join : (l : List ℕ) (at m n : ℕ) → part l at m ++ part l (at + m) n ≡ part l at (m + n)
unfolding part
part_join l at m n = ap (λ (k : List ℕ). take m (drop at l) ++ take n k) (sym (drop-drop m at l)) ∙ sym (take-add m n (drop at l))

-- octets that follow one another
pub follow : (l : List ℕ) (at a b : ℕ) {vs ws : List ℕ} → vs ≡ part l at a → ws ≡ part l (at + a) b → vs ++ ws ≡ part l at (a + b)
follow l at a b e f = ap₂ (λ (x y : List ℕ). x ++ y) e f ∙ part_join l at a b

-- two fields that follow one another are the halves of one
pub field_halves : (l : List ℕ) (at m n : ℕ) → at + m + n ≤ length l → field l at (m + n) ≡ field l at m * 256 ^ n + field l (at + m) n
unfolding field
field_halves l at m n h =
    ap (number 256) (sym (part_join l at m n)) ∙ number_halves 256 (part l at m) (part l (at + m) n)
    ∙ ap (λ (k : ℕ). number 256 (part l at m) * 256 ^ k + number 256 (part l (at + m) n)) (length_part l (at + m) n h)

pub part_whole : (l : List ℕ) → part l 0 (length l) ≡ l
unfolding part
part_whole l = take-length l
