-- A field at a place of a text and the octet behind it.
use Prim.Native.Nat.{ℕ, zero, suc, ◌+◌, ◌≤◌, ◌<◌}
use mathlib.Core.Bool.{Bool, true}
use mathlib.Core.List.{List, [], ◌∷◌, ◌++◌}
use mathlib.Core.Path.{◌≡◌, sym, ap, ◌∙◌}
use native.Mathlib.Numerals.{add-one}
use native.Mathlib.Omega.{arith}
use lib.ListN.{length, get_or, take, drop, length-append, length-drop, take-append-drop}
use lib.Seq.{drop-append_seam, drop-cons, drop-drop, get_or-append_seam, get_or-drop, take-append_seam}
use Rattle.octets.specs.Part.{part}
use Rattle.octets.specs.Search.{all_of}
use Rattle.octets.proofs.Rows.{octet_on, part_row, row_passes}
use Rattle.octets.proofs.Search.{and_left, and_right}

-- the octet at a place and what follows it
pub octet_stands : (l : List ℕ) (at next c : ℕ) → at + 1 ≡ next → next ≤ length l → get_or l at 0 ≡ c → drop at l ≡ c ∷ drop next l
octet_stands l at next c place h is =
    drop-cons l at 0 (omega arith) ∙ ap (λ (k : ℕ). get_or l at 0 ∷ drop k l) (sym (add-one at) ∙ place) ∙ ap (λ (v : ℕ). v ∷ drop next l) is

-- the n octets from a place on, the octet c at `stop` and the rest from `next` on
module _ (l : List ℕ) (start n c stop next : ℕ) (to-stop : start + n ≡ stop) (to-next : stop + 1 ≡ next) where
  pub field_stands : next ≤ length l → get_or l stop 0 ≡ c → drop start l ≡ part l start n ++ c ∷ drop next l
  unfolding part
  field_stands h is =
      sym (take-append-drop n (drop start l))
      ∙ ap (λ (m : List ℕ). take n (drop start l) ++ m) (drop-drop n start l ∙ ap (λ (k : ℕ). drop k l) to-stop ∙ octet_stands l stop next c to-next h is)

  -- where a text is known to go on with a field of n octets and the octet c
  pub record FieldAt (f m : List ℕ) : Type 0 where
    pub room : next ≤ length l
    pub ends : get_or l stop 0 ≡ c
    pub is : part l start n ≡ f
    pub behind : drop next l ≡ m

  pub field_at : (f m : List ℕ) → drop start l ≡ f ++ c ∷ m → length f ≡ n → start ≤ length l → FieldAt f m
  unfolding part
  field_at f m e size inside =
      let ending : drop stop l ≡ c ∷ m = ap (λ (k : ℕ). drop k l) (sym to-stop) ∙ sym (drop-drop n start l) ∙ ap (drop n) e ∙ ap (λ (k : ℕ). drop k (f ++ c ∷ m)) (sym size) ∙ drop-append_seam f (c ∷ m) in
      record {
        room = omega (arith, ap length e, length-drop start l, length-append f (c ∷ m));
        ends = ap (λ (k : ℕ). get_or l k 0) (sym to-stop) ∙ sym (get_or-drop start l n 0) ∙ ap (λ (r : List ℕ). get_or r n 0) e ∙ ap (λ (k : ℕ). get_or (f ++ c ∷ m) k 0) (sym size) ∙ get_or-append_seam f c m 0;
        is = ap (take n) e ∙ ap (λ (k : ℕ). take k (f ++ c ∷ m)) (sym size) ∙ take-append_seam f (c ∷ m);
        behind = ap (λ (k : ℕ). drop k l) (sym to-next) ∙ sym (drop-drop 1 stop l) ∙ ap (drop 1) ending;
      }

-- octets from a place on, each of which passes
module _ (p : ℕ → Bool) where
  pub each_passes : (l : List ℕ) (at n : ℕ) → at + n ≤ length l → ((i : ℕ) → i < n → p (get_or l (at + i) 0) ≡ true) → all_of p (part l at n) ≡ true
  unfolding octet_on
  each_passes l at n h f = ap (all_of p) (part_row l at n h) ∙ row_passes (octet_on l at) p 0 n (λ i k. f i (omega arith))

  pub passes_each : (l : List ℕ) → all_of p l ≡ true → (j : ℕ) → j < length l → p (get_or l j 0) ≡ true
  unfolding all_of
  passes_each [] e j h = absurd (omega arith)
  passes_each (c ∷ l) e zero h = and_left (p c) (all_of p l) e
  passes_each (c ∷ l) e (suc j) h = passes_each l (and_right (p c) (all_of p l) e) j (omega arith)
