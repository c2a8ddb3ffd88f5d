-- A node name at a place of a text, by the place where its characters end.
use Prim.Native.Nat.{ℕ, ◌+◌, ◌-◌, ◌≤◌, ◌<◌}
use mathlib.Core.Bool.{true, false, ◌&&◌, ◌||◌, true≢false, false≢true}
use mathlib.Core.List.{List, ◌∷◌, ◌++◌}
use mathlib.Core.Path.{◌≡◌, refl, sym, ap, ◌∙◌}
use native.Mathlib.Omega.{arith}
use lib.Dec.{leb, ltb}
use lib.ListN.{length, get_or, drop, get_or-append}
use lib.Seq.{get_or-drop}
use borrow.Author.Tests.{leb-true, le-ltb, ltb-false}
use Rattle.octets.specs.Part.{part}
use Rattle.octets.specs.Search.{all_of}
use Rattle.octets.proofs.Parts.{length_part}
use Rattle.octets.proofs.Search.{and_left, and_right, lower, or_left, or_right}
use Rattle.entry.specs.Field.{is_name, is_name_character}
use Rattle.fields.specs.Read.{IsField, NameEndIs}
use Rattle.fields.proofs.Places.{each_passes, field_at, field_stands, passes_each}
use Rattle.fields.proofs.Readings.{name_is}

-- the parts of a test that passes
pub record NameField (f : List ℕ) : Type 0 where
  pub low : 1 ≤ length f
  pub high : length f ≤ 253
  pub each : all_of is_name_character f ≡ true

pub name_field : (f : List ℕ) → is_name f ≡ true → NameField f
unfolding is_name
name_field f e =
    let sized = and_left (leb 1 (length f) && leb (length f) 253) (all_of is_name_character f) e in
    record {
      low = leb-true 1 (length f) (and_left (leb 1 (length f)) (leb (length f) 253) sized);
      high = leb-true (length f) 253 (and_right (leb 1 (length f)) (leb (length f) 253) sized);
      each = and_right (leb 1 (length f) && leb (length f) 253) (all_of is_name_character f) e;
    }

module _ (l : List ℕ) (at r : ℕ) (inside : at ≤ length l) (ends : NameEndIs l at r) where
  -- no name stands there
  abbrev pub NoName : Type 0
  NoName = (f m : List ℕ) → drop at l ≡ f ++ 10 ∷ m → is_name f ≡ true → ⊥

  -- a field that is a name ends where its characters do, at a newline
  ends_there : (f m : List ℕ) → drop at l ≡ f ++ 10 ∷ m → NameField f → (r ≡ at + length f) × (r < length l) × (get_or l r 0 ≡ 10)
  unfolding is_name_character
  ends_there f m e s =
      let here = field_at l at (length f) 10 (at + length f) (at + length f + 1) refl refl f m e refl inside in
      let room = here.room in
      let place : r ≡ at + length f =
      lower r (at + length f)
      (λ h.
      let offset : at + (r - at) ≡ r = omega (arith, ends.after) in
      let character : get_or l r 0 ≡ get_or f (r - at) 0 =
      ap (λ (k : ℕ). get_or l k 0) (sym offset) ∙ sym (get_or-drop at l (r - at) 0) ∙ ap (λ (q : List ℕ). get_or q (r - at) 0) e ∙ get_or-append f (10 ∷ m) 0 (r - at) (omega (arith, ends.after)) in
      absurd (true≢false (sym (passes_each is_name_character f s.each (r - at) (omega (arith, ends.after))) ∙ ap is_name_character (sym character) ∙ ends.ended (omega arith))))
      (λ h. lower (at + length f) r (λ k. absurd (false≢true (ap is_name_character (sym here.ends) ∙ ends.passed (at + length f) (omega arith) k))) (λ k. omega arith)) in
      (place, omega arith, ap (λ (k : ℕ). get_or l k 0) place ∙ here.ends)

  -- octets that are no name
  pub no_end : (r < length l → get_or l r 0 ≡ 10 → ⊥) → NoName
  no_end h f m e s = let here = ends_there f m e (name_field f s) in h here.1 here.2

  pub no_length : ltb (r - at) 1 || ltb 253 (r - at) ≡ true → NoName
  no_length h f m e s =
      let field = name_field f s in
      let here = ends_there f m e field in
      false≢true (sym (rw (le-ltb (r - at) 1 (omega (arith, here.0, field.low)), le-ltb 253 (r - at) (omega (arith, here.0, field.high)))) ∙ h)

  -- the name, its length and the newline that ends it
  pub name_stands : ltb (r - at) 1 || ltb 253 (r - at) ≡ false → r < length l → get_or l r 0 ≡ 10
      → IsField l at (part l at (r - at)) 10 (r + 1) × (is_name (part l at (r - at)) ≡ true) × (r - at ≡ length (part l at (r - at)))
  name_stands h inside newline =
      let place : at + (r - at) ≡ r = omega (arith, ends.after) in
      let low = ltb-false (r - at) 1 (or_left (ltb (r - at) 1) (ltb 253 (r - at)) h) in
      let high = ltb-false 253 (r - at) (or_right (ltb (r - at) 1) (ltb 253 (r - at)) h) in
      let size = length_part l at (r - at) (omega (arith, ends.within)) in (
        record { is = field_stands l at (r - at) 10 r (r + 1) place refl (omega arith) newline; within = omega arith; after = omega (arith, ends.after) },
        name_is (part l at (r - at)) (omega arith) (omega arith)
            ∙ each_passes is_name_character l at (r - at) (omega (arith, ends.within)) (λ i k. ends.passed (at + i) (omega arith) (omega arith)),
        sym size,
      )
