-- Zeros at a place of a list: none, and runs that follow one another or overlap.
use Prim.Native.Nat.{ℕ, ◌+◌, suc, ◌-◌, ◌≤◌, ◌<◌}
use mathlib.Core.Bool.{Bool, true, false, ◌&&◌, and_assoc}
use mathlib.Core.List.{List, [], ◌∷◌, ◌++◌}
use mathlib.Core.Path.{◌≡◌, refl, sym, ap, ap₂, ◌∙◌}
use native.Mathlib.Nat.{suc_inj}
use native.Mathlib.Numerals.{add-one}
use native.Mathlib.Omega.{arith}
use lib.Dec.{eqb}
use lib.ListN.{length, get_or, drop, drop_of_length-le}
use lib.Seq.{drop-cons}
use Rattle.octets.specs.Part.{part, zeros, same, zeros_at}
use Rattle.octets.proofs.Fields.{part_join}
use Rattle.octets.proofs.Parts.{length_part, length_zeros, zeros_append}

-- lists of two runs each
same_append : (a b c d : List ℕ) → length a ≡ length b → same (a ++ c) (b ++ d) ≡ same a b && same c d
unfolding same
same_append [] [] c d e = refl
same_append [] (y ∷ b) c d e = absurd (omega (arith, e))
same_append (x ∷ a) [] c d e = absurd (omega (arith, e))
same_append (x ∷ a) (y ∷ b) c d e = ap (λ (t : Bool). eqb x y && t) (same_append a b c d (suc_inj e)) ∙ sym (and_assoc (eqb x y) (same a b) (same c d))

pub zeros_join : (l : List ℕ) (at m n : ℕ) → at + m ≤ length l → zeros_at l at (m + n) ≡ zeros_at l at m && zeros_at l (at + m) n
unfolding zeros_at
zeros_join l at m n h =
    ap₂ same (sym (part_join l at m n)) (sym (zeros_append m n))
    ∙ same_append (part l at m) (zeros m) (part l (at + m) n) (zeros n) (length_part l at m h ∙ sym (length_zeros m))

-- octets that are left: none, and one with those behind it
module _ (l : List ℕ) (i : ℕ) where
  pub none_left : length l ≤ i → same (drop i l) (zeros (length l - i)) ≡ true
  unfolding same zeros
  none_left h =
      let none : length l - i ≡ 0 = omega arith in
      rw (drop_of_length-le l h, none)

  pub one_left : i < length l → same (drop i l) (zeros (length l - i)) ≡ eqb (get_or l i 0) 0 && same (drop (i + 1) l) (zeros (length l - (i + 1)))
  unfolding same zeros
  one_left h =
      let more : length l - i ≡ suc (length l - (i + 1)) = omega arith in
      rw (more, drop-cons l i 0 h, add-one)

-- what stands from a place to another one
module _ (l : List ℕ) where
  -- two runs that follow one another
  pub zeros_between : (a b c : ℕ) → a ≤ b → b ≤ c → b ≤ length l → zeros_at l a (c - a) ≡ zeros_at l a (b - a) && zeros_at l b (c - b)
  zeros_between a b c p q h =
      let whole : c - a ≡ (b - a) + (c - b) = omega arith in
      let middle : a + (b - a) ≡ b = omega arith in
      ap (zeros_at l a) whole ∙ zeros_join l a (b - a) (c - b) (omega arith) ∙ ap (λ (k : ℕ). zeros_at l a (b - a) && zeros_at l k (c - b)) middle

  -- two runs that overlap
  pub zeros_overlap : (a b c d : ℕ) → a ≤ b → b ≤ c → c ≤ d → c ≤ length l → zeros_at l a (c - a) && zeros_at l b (d - b) ≡ zeros_at l a (d - a)
  zeros_overlap a b c d p q r h =
      rw (zeros_between a b c p q (omega arith), zeros_between a b d p (omega arith) (omega arith), zeros_between b c d q r h) (twice (zeros_at l a (b - a)) (zeros_at l b (c - b)) (zeros_at l c (d - c)))
    where
      twice : (x y z : Bool) → (x && y) && (y && z) ≡ x && (y && z)
      twice true true z = refl
      twice true false z = refl
      twice false y z = refl
