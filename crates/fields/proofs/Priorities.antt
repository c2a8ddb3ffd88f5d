-- A priority at a place of a text.
use Rattle.std.specs.Prelude.{None, Some}
use Rattle.std.proofs.Common.{◌≡◌, ℕ, ◌+◌, ◌≤◌, true, false, ◌&&◌, List, ◌∷◌, ◌++◌, length, drop, leb, eqb, refl, sym, ap, ◌∙◌, arith}
use mathlib.Core.Bool.{true≢false}
use borrow.Author.Tests.{eq-eqb, eqb-true, le-leb, leb-true}
use Rattle.std.proofs.lemmas.Option.{same_Some}
use Rattle.octets.proofs.Search.{and_left, and_right, and_true, either}
use Rattle.text.specs.Text.{decimal_width, read_digits}
use Rattle.text.proofs.Texts.{width_below}
use Rattle.entry.specs.Field.{priority_of}
use Rattle.fields.specs.Read.{NumberIs, PriorityIs}
use Rattle.fields.specs.declared.field.Field.{Field}
use Rattle.fields.proofs.Characters.{priority_field}
use Rattle.fields.proofs.Numbers.{next_is}
use Rattle.fields.proofs.Places.{field_at}
use Rattle.fields.proofs.Readings.{priority_is}

-- a priority has one to three digits
pub some_digit : (c : List ℕ) (x : ℕ) → priority_of c ≡ Some x → 1 ≤ length c
unfolding decimal_width
some_digit c x e = let p = priority_field c x e in omega (arith, p.size)

pub most_digits : (c : List ℕ) (x : ℕ) → priority_of c ≡ Some x → length c ≤ 3
unfolding decimal_width
most_digits c x e = let p = priority_field c x e in omega (arith, p.size, width_below x 2 (omega (arith, p.small)))

module _ (l : List ℕ) (at : ℕ) where
  -- a priority at the place has n digits or more
  abbrev pub AtLeast : ℕ → Type 0
  AtLeast n = (c m : List ℕ) (x : ℕ) → drop at l ≡ c ++ 10 ∷ m → priority_of c ≡ Some x → n ≤ length c

  module _ (n : ℕ) (more : AtLeast n) where
    pub no_number : NumberIs l at n 10 10 None → AtLeast (n + 1)
    no_number h c m x e says =
        let p = priority_field c x says in
        either n (length c) (λ q. absurd (h c m x e (sym q) p.reads)) (λ q. let k = more c m x e says in omega arith)

    module _ (r : Field ℕ) (number : NumberIs l at n 10 10 (Some r)) where
      pub no_priority : at ≤ length l → leb r.value 255 && eqb (decimal_width r.value) n ≡ false → AtLeast (n + 1)
      no_priority within h c m x e says =
          let p = priority_field c x says in
          either n (length c)
          (λ q.
          let place : at + n + 1 ≡ r.next = omega (arith, next_is l at number.0 10 r.next number.1, number.2) in
          let here = field_at l at n 10 (at + n) r.next refl place number.0 (drop r.next l) number.1.is number.2 within in
          let there = field_at l at n 10 (at + n) r.next refl place c m e (sym q) within in
          let value : r.value ≡ x = same_Some r.value x (sym number.3 ∙ ap (read_digits 10) (sym here.is ∙ there.is) ∙ p.reads) in
          let width : decimal_width r.value ≡ n = ap decimal_width value ∙ sym p.size ∙ sym q in
          absurd (true≢false (sym (and_true (leb r.value 255) (eqb (decimal_width r.value) n) (le-leb r.value 255 (omega (arith, p.small))) (eq-eqb (decimal_width r.value) n width)) ∙ h)))
          (λ q. let k = more c m x e says in omega arith)

      pub priority_read : leb r.value 255 && eqb (decimal_width r.value) n ≡ true → PriorityIs l at (Some r)
      priority_read h =
          let small = leb-true r.value 255 (and_left (leb r.value 255) (eqb (decimal_width r.value) n) h) in
          let width = eqb-true (decimal_width r.value) n (and_right (leb r.value 255) (eqb (decimal_width r.value) n) h) in
          (number.0, number.1.is, number.1.within, sym (priority_is number.0 r.value number.3 small (number.2 ∙ sym width)))

  pub none_left : AtLeast 4 → PriorityIs l at None
  none_left h c m x e says = omega (arith, h c m x e says, most_digits c x says)
