-- Octets read at once: the number that one, two, four or eight of them say, and a word of eight, which is zero where all of them are.
use Prim.Native.Nat.{ℕ, ◌+◌, ◌*◌, ◌≤◌, ◌<◌}
use mathlib.Core.Bool.{Bool, true, ◌&&◌}
use mathlib.Core.List.{List, [], ◌∷◌}
use mathlib.Core.Path.{◌≡◌, refl, sym, ap, ◌∙◌, subst}
use native.Mathlib.Nat.{add-zero}
use native.Mathlib.Omega.{arith}
use lib.Dec.{eqb}
use lib.ListN.{length, get_or}
use borrow.Author.Tests.{lt-ltb}
use Rattle.octets.specs.Digits.{field, low, number, number_from}
use Rattle.octets.specs.Laws.{below}
use Rattle.octets.specs.Part.{part, zeros, same, zeros_at}
use Rattle.octets.specs.Row.{row}
use Rattle.octets.specs.Search.{all_of}
use Rattle.octets.proofs.Eight.{each_place}
use Rattle.buffer.proofs.Ors.{sum_none}
use Rattle.octets.proofs.Parts.{length_part}
use Rattle.octets.proofs.Rows.{octet_on, part_row, row_passes}

low_none : (ds : List ℕ) → eqb (low ds) 0 ≡ same ds (zeros (length ds))
unfolding low same zeros
low_none [] = refl
low_none (d ∷ ds) = sum_none d (low ds) ∙ ap (λ (t : Bool). eqb d 0 && t) (low_none ds)

-- the sum of eight octets, the least significant first
abbrev sum : (a b c d e f g h : ℕ) → ℕ
sum a b c d e f g h =
    a + b * 256 + c * 65536 + d * 16777216 + e * 4294967296 + f * 1099511627776 + g * 281474976710656 + h * 72057594037927936

-- a number is the octet at a place
abbrev Octet : List ℕ → ℕ → ℕ → Type 0
Octet l at x = (x ≡ get_or l at 0) × (x < 256)

module _ (l : List ℕ) (at : ℕ) where
  start : octet_on l at 0 ≡ get_or l at 0
  unfolding octet_on
  start = ap (λ (i : ℕ). get_or l i 0) (add-zero at)

  pub one_octet : at + 1 ≤ length l → field l at 1 ≡ get_or l at 0
  unfolding field number number_from row octet_on
  one_octet h = omega (arith, ap (number 256) (part_row l at 1 h), start)

  pub two_octets : at + 2 ≤ length l → field l at 2 ≡ get_or l at 0 * 256 + get_or l (at + 1) 0
  unfolding field number number_from row octet_on
  two_octets h = omega (arith, ap (number 256) (part_row l at 2 h), start)

  pub four_octets : at + 4 ≤ length l → field l at 4 ≡ get_or l at 0 * 16777216 + get_or l (at + 1) 0 * 65536 + get_or l (at + 2) 0 * 256 + get_or l (at + 3) 0
  unfolding field number number_from row octet_on
  four_octets h = omega (arith, ap (number 256) (part_row l at 4 h), start)

  pub eight_octets : at + 8 ≤ length l
      → field l at 8 ≡ sum (get_or l (at + 7) 0) (get_or l (at + 6) 0) (get_or l (at + 5) 0) (get_or l (at + 4) 0) (get_or l (at + 3) 0) (get_or l (at + 2) 0) (get_or l (at + 1) 0) (get_or l at 0)
  unfolding field number number_from row octet_on
  eight_octets h = omega (arith, ap (number 256) (part_row l at 8 h), start)

  module _ (h : at + 8 ≤ length l) where
    pub word_octets : low (part l at 8) ≡ sum (get_or l at 0) (get_or l (at + 1) 0) (get_or l (at + 2) 0) (get_or l (at + 3) 0) (get_or l (at + 4) 0) (get_or l (at + 5) 0) (get_or l (at + 6) 0) (get_or l (at + 7) 0)
    unfolding row octet_on low
    word_octets = omega (arith, ap low (part_row l at 8 h), start)

    pub word_none : eqb (low (part l at 8)) 0 ≡ zeros_at l at 8
    unfolding zeros_at
    word_none = low_none (part l at 8) ∙ ap (λ (n : ℕ). same (part l at 8) (zeros n)) (length_part l at 8 h)

    -- each of them is an octet, as it was read
    pub word_below : {a b c d e f g k : ℕ} → Octet l at a → Octet l (at + 1) b → Octet l (at + 2) c → Octet l (at + 3) d → Octet l (at + 4) e → Octet l (at + 5) f
        → Octet l (at + 6) g → Octet l (at + 7) k → all_of (below 256) (part l at 8) ≡ true
    unfolding octet_on below
    word_below a b c d e f g k =
        ap (all_of (below 256)) (part_row l at 8 h)
        ∙ row_passes (octet_on l at) (below 256) 0 8 (each_place (λ i. below 256 (octet_on l at i) ≡ true) (passes 0 (a.0 ∙ sym start, a.1)) (passes 1 b) (passes 2 c) (passes 3 d) (passes 4 e) (passes 5 f) (passes 6 g) (passes 7 k))
      where
        passes : (i : ℕ) {x : ℕ} → (x ≡ octet_on l at i) × (x < 256) → below 256 (octet_on l at i) ≡ true
        passes i o = lt-ltb (octet_on l at i) 256 (subst (λ (y : ℕ). y < 256) o.0 o.1)
