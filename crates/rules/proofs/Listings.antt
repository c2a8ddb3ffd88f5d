-- How long a listing is: a line of a sound table has at most 50 octets and each of its at most 8 children at most 20.
use Rattle.std.specs.Prelude.{Option, None, Some}
use Prim.Native.Nat.{ℕ, suc, ◌+◌, ◌*◌, ◌≤◌, ◌<◌}
use mathlib.Core.Bool.{Bool, true, ◌&&◌}
use mathlib.Core.List.{List, [], ◌∷◌}
use mathlib.Core.Path.{◌≡◌, refl}
use native.Mathlib.Omega.{arith}
use lib.Dec.{leb}
use lib.ListN.{length, length-append}
use borrow.Author.Tests.{leb-true}
use Rattle.octets.specs.Row.{joined, row}
use Rattle.octets.specs.Search.{all_of}
use Rattle.octets.proofs.Rows.{length_row, row_passes}
use Rattle.octets.proofs.Search.{and_left, and_right}
use Rattle.address.specs.Address.{version_of}
use Rattle.address.proofs.Numbers.{width_most}
use Rattle.address.specs.declared.Address.{Address}
use Rattle.children.specs.Children.{child_fits}
use Rattle.children.specs.declared.Child.{Child}
use Rattle.phase.specs.Chosen.{chosen}
use Rattle.phase.specs.Stage.{Stage, stage_of}
use Rattle.record.specs.Line.{Line}
use Rattle.record.specs.Sound.{children_sound, in_range, line_sound}
use Rattle.table.specs.Slots.{line_at, slots_of}
use Rattle.table.specs.Table.{is_table}
use Rattle.text.specs.Text.{text}
use Rattle.text.proofs.Texts.{decimal_below, length_digit_text}
use Rattle.rules.specs.Call.{pair_of}
use Rattle.rules.specs.Listing.{address_text, child_text, line_text, list_from, newline, tab, word}
use Rattle.rules.specs.View.{own_line}
use Rattle.rules.proofs.Accepted.{found_sound}

word_short : (s : Stage) → length (text (word s)) ≤ 7
unfolding word text
word_short Stage.idle = omega arith
word_short Stage.country = omega arith
word_short Stage.name = omega arith
word_short Stage.chosen = omega arith
word_short Stage.init = omega arith
word_short Stage.auth = omega arith
word_short Stage.eap = omega arith
word_short Stage.sure = omega arith
word_short Stage.live = omega arith

-- an address text has at most 32 octets
address_short : (o : Option Address) → length (address_text o) ≤ 32
unfolding address_text text
address_short None = omega arith
address_short (Some a) = simp length_digit_text (omega (arith, width_most (version_of a)))

-- elements of at most w octets each, one after another
joined_short : {A : Type 0} (g : A → List ℕ) (p : A → Bool) (w : ℕ) → ((x : A) → p x ≡ true → length (g x) ≤ w)
    → (l : List A) → all_of p l ≡ true → length (joined g l) ≤ w * length l
unfolding joined all_of
joined_short g p w short [] e = omega arith
joined_short g p w short (x ∷ l) e =
    let here = short x (and_left (p x) (all_of p l) e) in
    let rest = joined_short g p w short l (and_right (p x) (all_of p l) e) in
    simp length-append (omega arith)

-- the texts of a line with a number of one digit
module _ (n : ℕ) (small : n < 10) where
  child_short : (c : Child) → child_fits c ≡ true → length (child_text n c) ≤ 20
  unfolding child_text text tab newline child_fits
  child_short c fits =
      let session = leb-true c.session 15 (and_right (leb 256 c.spi && leb 1 c.session) (leb c.session 15) fits) in
      let number = decimal_below n 0 small in
      let digits = decimal_below c.session 1 (omega arith) in
      simp (length-append, length_digit_text) (omega arith)

  line_short : (x : Line) → line_sound x ≡ true → length (line_text n x) ≤ 210
  unfolding line_text text tab newline line_sound in_range children_sound
  line_short x sound =
      let fit : all_of child_fits x.children ≡ true = search (and_left, and_right) in
      let few : leb (length x.children) 8 ≡ true = search (and_left, and_right) in
      let most = leb-true (length x.children) 8 few in
      let number = decimal_below n 0 small in
      let count = decimal_below (length x.children) 0 (omega arith) in
      let phase = word_short (stage_of x.phase) in
      let address = address_short (chosen x.phase) in
      let children = joined_short (child_text n) child_fits 20 child_short x.children fit in
      simp length-append (omega arith)

-- there is no line, or it is a sound one
sound_if : Option Line → Bool
sound_if None = true
sound_if (Some x) = line_sound x

-- the lines from a number on, as long as each number has one digit
lines_short : (n : ℕ) (xs : List (Option Line)) → n + length xs ≤ 10 → all_of sound_if xs ≡ true → length (list_from n xs) ≤ 210 * length xs
unfolding list_from all_of sound_if
lines_short n [] h e = omega arith
lines_short n (None ∷ xs) h e =
    let rest = lines_short (suc n) xs (omega arith) e in
    omega arith
lines_short n (Some x ∷ xs) h e =
    let here = line_short n (omega arith) x (and_left (line_sound x) (all_of sound_if xs) e) in
    let rest = lines_short (suc n) xs (omega arith) (and_right (line_sound x) (all_of sound_if xs) e) in
    simp length-append (omega arith)

-- the listing of a tenant of a sound table
module _ (l : List ℕ) (sound : is_table l ≡ true) (tenant : ℕ) where
  own_sound : (i : ℕ) → sound_if (own_line tenant (slots_of l) i) ≡ true
  unfolding sound_if own_line pair_of
  own_sound i = go (line_at (pair_of tenant i) (slots_of l)) refl
    where
      go : (o : Option Line) → line_at (pair_of tenant i) (slots_of l) ≡ o → sound_if o ≡ true
      go None e = refl
      go (Some x) e = found_sound l sound (pair_of tenant i) (omega arith) x e

  pub listing_short : length (list_from 0 (row (own_line tenant (slots_of l)) 0 4)) ≤ 840
  listing_short =
      let lines = row (own_line tenant (slots_of l)) 0 4 in
      let four = length_row (own_line tenant (slots_of l)) 0 4 in
      let short = lines_short 0 lines (omega arith) (row_passes (own_line tenant (slots_of l)) sound_if 0 4 (λ i h. own_sound i)) in
      omega arith
