-- 32 digits at a place, which are read as two halves.
use Rattle.std.specs.Prelude.{Option, None, Some}
use Rattle.std.proofs.Common.{◌≡◌, ℕ, ◌+◌, ◌*◌, ◌^◌, ◌≤◌, ◌<◌, List, ◌∷◌, ◌++◌, length, take, drop, refl, sym, ap, ◌∙◌, subst, arith, length-append, length-drop}
use Rattle.std.proofs.lemmas.List.{drop-append-le, take-append-drop, take-append-le}
use lib.Seq.{drop-drop}
use mathlib.Core.List.{append_assoc}
use Rattle.std.proofs.lemmas.Option.{none-some}
use Rattle.octets.specs.Part.{part}
use Rattle.octets.proofs.Parts.{length_part}
use Rattle.text.specs.Laws.{halves}
use Rattle.text.specs.Text.{read_digits}
use Rattle.text.proofs.Texts.{read_below, read_halves}
use Rattle.address.proofs.Numbers.{halves_kept}
use Rattle.config.specs.declared.Node.{Node}
use Rattle.address.specs.declared.Address.TheVariants.{V6}
use Rattle.address.specs.Address.{width_of}
use Rattle.fields.specs.Read.{NumberIs}
use Rattle.fields.specs.declared.field.Field.{Field}
use Rattle.entries.specs.Branch.{AddressIs}

-- a text that is read has two halves that are
module _ (f g : List ℕ) (x : ℕ) (reads : read_digits 16 (f ++ g) ≡ Some x) where
  abbrev Halved : Type 0
  Halved = (y : ℕ) × (z : ℕ) × (read_digits 16 f ≡ Some y) × (read_digits 16 g ≡ Some z)

  pub halved : Halved
  unfolding halves
  halved = go (read_digits 16 f) refl (read_digits 16 g) refl (sym (read_halves 16 f g) ∙ reads)
    where
      go : (o : Option ℕ) → read_digits 16 f ≡ o → (p : Option ℕ) → read_digits 16 g ≡ p → halves (16 ^ length g) o p ≡ Some x → Halved
      go None e p h k = absurd (none-some x k)
      go (Some y) e None h k = absurd (none-some x k)
      go (Some y) e (Some z) h k = (y, z, e, h)

module _ (l : List ℕ) (start : ℕ) (within : start ≤ length l) where
  -- 32 digits and a newline, parted in the middle
  pub record Parted (f m : List ℕ) (x : ℕ) : Type 0 where
    pub room : start + 16 ≤ length l
    pub high : ℕ
    pub high_read : read_digits 16 (part l start 16) ≡ Some high
    pub rest : List ℕ
    pub rest_size : length rest ≡ 16
    pub rest_stands : drop (start + 16) l ≡ rest ++ 10 ∷ m
    pub low : ℕ
    pub low_read : read_digits 16 rest ≡ Some low

  parted : (f m : List ℕ) (x : ℕ) → drop start l ≡ f ++ 10 ∷ m → length f ≡ 32 → read_digits 16 f ≡ Some x → Parted f m x
  unfolding part
  parted f m x e size reads =
      let both = halved (take 16 f) (drop 16 f) x (ap (read_digits 16) (take-append-drop 16 f) ∙ reads) in
      record {
        room = omega (arith, ap length e, length-drop start l, length-append f (10 ∷ m));
        high = both.0;
        high_read = ap (read_digits 16) (ap (take 16) e ∙ take-append-le 16 f (10 ∷ m) (omega arith)) ∙ both.2;
        rest = drop 16 f;
        rest_size = omega (arith, length-drop 16 f);
        rest_stands = sym (drop-drop 16 start l) ∙ ap (drop 16) e ∙ drop-append-le 16 f (10 ∷ m) (omega arith);
        low = both.1;
        low_read = both.3;
      }

  pub no_room : length l < start + 16 → AddressIs 6 l start None
  unfolding width_of
  no_room h f m x e size reads = omega (arith, (parted f m x e size reads).room)

  pub no_high : read_digits 16 (part l start 16) ≡ None → AddressIs 6 l start None
  unfolding width_of
  no_high h f m x e size reads = let p = parted f m x e size reads in none-some p.high (sym h ∙ p.high_read)

  pub no_low : NumberIs l (start + 16) 16 16 10 None → AddressIs 6 l start None
  unfolding width_of
  no_low h f m x e size reads = let p = parted f m x e size reads in h p.rest m p.low p.rest_stands p.rest_size p.low_read

  pub both_read : start + 16 ≤ length l → (high : ℕ) → read_digits 16 (part l start 16) ≡ Some high → (low : Field ℕ) → NumberIs l (start + 16) 16 16 10 (Some low)
      → AddressIs 6 l start (Some (record { value = Node.Address (V6 high low.value); next = low.next }))
  unfolding width_of halves part
  both_read room high e low (g, s, size, reads) = (
    take 16 (drop start l) ++ g,
    high * 2 ^ 64 + low.value,
    record {
      is =
          sym (take-append-drop 16 (drop start l)) ∙ ap (λ (m : List ℕ). take 16 (drop start l) ++ m) (drop-drop 16 start l ∙ s.is)
          ∙ sym (append_assoc (take 16 (drop start l)) g (10 ∷ drop low.next l));
      within = s.within;
      after = omega (arith, s.after);
    },
    omega (arith, length-append (take 16 (drop start l)) g, length_part l start 16 (omega arith)),
    read_halves 16 (take 16 (drop start l)) g ∙ ap (λ (n : ℕ). halves (16 ^ n) (read_digits 16 (take 16 (drop start l))) (read_digits 16 g)) size ∙ rw (e, reads),
    ap Node.Address (sym (halves_kept high low.value (subst (λ (n : ℕ). low.value < 16 ^ n) size (read_below 16 low.value g reads)))),
  )
