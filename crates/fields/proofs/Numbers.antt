-- A number of so many digits at a place of a text.
use Rattle.std.specs.Prelude.{None, Some}
use Rattle.std.proofs.Common.{◌≡◌, ℕ, ◌+◌, ◌≤◌, ◌<◌, List, ◌∷◌, length, get_or, drop, refl, sym, ap, ◌∙◌, arith, length-append, length-drop}
use Rattle.std.proofs.lemmas.Option.{none-some}
use Rattle.octets.specs.Part.{part}
use Rattle.octets.proofs.Parts.{length_part}
use Rattle.text.specs.Text.{read_digits}
use Rattle.fields.specs.Read.{NumberIs, IsField}
use Rattle.fields.proofs.Places.{field_at, field_stands}

-- where the text goes on
pub next_is : (l : List ℕ) (at : ℕ) (f : List ℕ) (end next : ℕ) → IsField l at f end next → next ≡ at + length f + 1
next_is l at f end next s = omega (arith, ap length s.is, s.within, s.after, length-drop at l, length-drop next l, length-append f (end ∷ drop next l))

module _ (l : List ℕ) (at n base end : ℕ) (within : at ≤ length l) where
  pub unended : (at + n < length l → get_or l (at + n) 0 ≡ end → ⊥) → NumberIs l at n base end None
  unended h f m x e size reads =
      let here = field_at l at n end (at + n) (at + n + 1) refl refl f m e size within in
      h (omega (arith, here.room)) here.ends

  pub unread : read_digits base (part l at n) ≡ None → NumberIs l at n base end None
  unread h f m x e size reads =
      let here = field_at l at n end (at + n) (at + n + 1) refl refl f m e size within in
      none-some x (sym h ∙ ap (read_digits base) here.is ∙ reads)

  pub number_read : at + n < length l → get_or l (at + n) 0 ≡ end → (x : ℕ) → read_digits base (part l at n) ≡ Some x
      → NumberIs l at n base end (Some (record { value = x; next = at + n + 1 }))
  number_read h ends x reads = (
    part l at n,
    record { is = field_stands l at n end (at + n) (at + n + 1) refl refl (omega arith) ends; within = omega arith; after = omega arith },
    length_part l at n (omega arith),
    reads,
  )
