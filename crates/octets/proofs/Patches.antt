-- Octets written within a list: a part of a slice that is changed is a write at its place, and what is written to the front or to the end
-- of two lists leaves the other.
use Prim.Native.Nat.{ℕ, ◌+◌, ◌-◌, ◌≤◌}
use mathlib.Core.List.{List, ◌++◌, append_assoc, append-nil}
use mathlib.Core.Path.{◌≡◌, sym, ap, ap₂, ◌∙◌}
use native.Mathlib.Omega.{arith}
use lib.ListN.{length, take, drop, drop_of_length-le, length-append}
use lib.Seq.{sets, sets-eq, drop-append-le, take-append-le, take_at}
use borrow.Rule.Slice.PartMut.{mid_of, mid_len, put_mid, Post-is}
use Rattle.octets.specs.Part.{padded, zeros, Wrote}
use Rattle.octets.proofs.Parts.{length_zeros, zeros_append}

part_wrote : (l : List ℕ) (at n : ℕ) (new vs : List ℕ) → at + n ≤ length l → length vs ≡ n → new ≡ vs → Wrote l at vs (put_mid at (at + n - at) l new)
part_wrote l at n new vs within size e =
    let fits : at + length vs ≤ length l = omega (arith, size) in
    let end : at + length vs ≡ at + n = ap (λ (k : ℕ). at + k) size in
    record {
      wrote =
          ap₂ (λ (m k : List ℕ). take at l ++ (m ++ k)) e (Post-is at (at + n) l (omega arith))
          ∙ sym (append_assoc (take at l) vs (drop (at + n) l))
          ∙ ap (λ (k : ℕ). take at l ++ vs ++ drop k l) (sym end)
          ∙ sym (sets-eq vs l at fits);
    }

-- a part of n octets that is cleared
pub part_cleared : (l : List ℕ) (at n : ℕ) → at + n ≤ length l → (new : List ℕ) → new ≡ zeros (length (mid_of at (at + n - at) l)) → Wrote l at (zeros n) (put_mid at (at + n - at) l new)
part_cleared l at n within new e =
    let size : length (mid_of at (at + n - at) l) ≡ at + n - at = mid_len at (at + n) l within in
    let all : at + n - at ≡ n = omega arith in
    part_wrote l at n new (zeros n) within (length_zeros n) (e ∙ ap zeros (size ∙ all))

-- a part of n octets that is stored, which keeps its length
pub part_stored : (l : List ℕ) (at n : ℕ) → at + n ≤ length l → (new vs : List ℕ) → new ≡ vs → length new ≡ length (mid_of at (at + n - at) l)
    → Wrote l at vs (put_mid at (at + n - at) l new)
part_stored l at n within new vs e kept =
    let all : at + n - at ≡ n = omega arith in
    part_wrote l at n new vs within (ap length (sym e) ∙ kept ∙ mid_len at (at + n) l within ∙ all) e

-- what is written within the first of two lists
pub front_sets : (l c : List ℕ) (at : ℕ) (vs : List ℕ) → at + length vs ≤ length l → sets (l ++ c) at vs ≡ sets l at vs ++ c
front_sets l c at vs h =
    let size : length (l ++ c) ≡ length l + length c = length-append l c in
    sets-eq vs (l ++ c) at (omega (arith, size))
    ∙ ap₂ (λ (m k : List ℕ). m ++ vs ++ k) (take-append-le at l c (omega arith)) (drop-append-le (at + length vs) l c h)
    ∙ sym (append_assoc (take at l ++ vs) (drop (at + length vs) l) c)
    ∙ ap (λ (m : List ℕ). m ++ c) (sym (sets-eq vs l at h))

-- what is written over the whole second of two lists
pub end_sets : (a b : List ℕ) (at : ℕ) (vs : List ℕ) → length a ≡ at → length b ≡ length vs → sets (a ++ b) at vs ≡ a ++ vs
end_sets a b at vs e f =
    let size : length (a ++ b) ≡ length a + length b = length-append a b in
    let past : length (a ++ b) ≤ at + length vs = omega (arith, size) in
    sets-eq vs (a ++ b) at (omega (arith, size))
    ∙ ap₂ (λ (m k : List ℕ). m ++ vs ++ k) (take_at a b at e) (drop_of_length-le (a ++ b) past)
    ∙ append-nil (a ++ vs)

-- what is written over the zeros that stand behind a list
pub padded_end : (a : List ℕ) (n at : ℕ) (vs : List ℕ) → length a ≡ at → length vs ≤ n → sets (a ++ zeros n) at vs ≡ a ++ padded n vs
unfolding padded
padded_end a n at vs e h =
    let k = length vs in
    let split : k + (n - k) ≡ n = omega arith in
    let room : length (a ++ zeros k) ≡ length a + k = length-append a (zeros k) ∙ ap (λ (m : ℕ). length a + m) (length_zeros k) in
    ap (λ (z : List ℕ). sets (a ++ z) at vs) (ap zeros (sym split) ∙ sym (zeros_append k (n - k)))
    ∙ ap (λ (l : List ℕ). sets l at vs) (sym (append_assoc a (zeros k) (zeros (n - k))))
    ∙ front_sets (a ++ zeros k) (zeros (n - k)) at vs (omega (arith, room))
    ∙ ap (λ (l : List ℕ). l ++ zeros (n - k)) (end_sets a (zeros k) at vs e (length_zeros k))
    ∙ append_assoc a vs (zeros (n - k))
