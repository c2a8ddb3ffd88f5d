-- What fields say, from their characters.
use Rattle.std.specs.Prelude.{Some}
use Prim.Native.Nat.{ℕ, ◌*◌, ◌≤◌}
use mathlib.Core.Bool.{Bool, true, false, ◌||◌}
use mathlib.Core.List.{List}
use mathlib.Core.Path.{◌≡◌, refl, sym, ap, ◌∙◌, subst}
use native.Mathlib.Omega.{arith}
use lib.Dec.{ltb, eqb}
use lib.ListN.{length}
use borrow.Author.Tests.{le-leb, eq-eqb, ne_eqb, ltb-true, ltb-false}
use Rattle.octets.specs.Part.{same}
use Rattle.octets.specs.Search.{all_of}
use Rattle.octets.proofs.Parts.{equal_same}
use Rattle.text.specs.Text.{read_digits, digit_text, decimal, decimal_width}
use Rattle.text.proofs.Texts.{write_text}
use Rattle.address.specs.Address.{address_of, width_of}
use Rattle.entry.specs.Entry.{address_entry, version_entry, Node}
use Rattle.entry.specs.Field.{plmn_from, plmn_of, plain, priority_of, is_name, is_name_character, most_priority, most_name}

-- a PLMN from its two numbers
module _ (a b : List ℕ) (three : length a ≡ 3) (two : 2 ≤ length b) (most : length b ≤ 3) where
  two_or_three : eqb (length b) 2 || eqb (length b) 3 ≡ true
  two_or_three = go (ltb (length b) 3) refl
    where
      go : (t : Bool) → ltb (length b) 3 ≡ t → eqb (length b) 2 || eqb (length b) 3 ≡ true
      go true e = let f = ltb-true (length b) 3 e in rw (eq-eqb (length b) 2 (omega arith))
      go false e =
          let f = ltb-false (length b) 3 e in
          simp (ne_eqb (length b) 2 (λ q. omega arith), eq-eqb (length b) 3 (omega arith))

  pub plmn_is : {m n : ℕ} → read_digits 10 a ≡ Some m → read_digits 10 b ≡ Some n → Some (record { mcc = m; mnc = n }) ≡ plmn_of a b
  unfolding plmn_of plmn_from
  plmn_is e f = sym (simp (eq-eqb (length a) 3 three, two_or_three, e, f))

-- a field that is read as x and as long as its decimal form is that form
module _ (l : List ℕ) (x : ℕ) (reads : read_digits 10 l ≡ Some x) where
  spelt : length l ≡ decimal_width x → same l (decimal x) ≡ true
  unfolding decimal
  spelt e =
      subst (λ (m : List ℕ). same l m ≡ true) (sym (write_text 10 x l (omega arith) reads) ∙ ap (λ (n : ℕ). digit_text 10 n x) e) (equal_same l)

  pub priority_is : x ≤ most_priority → length l ≡ decimal_width x → Some x ≡ priority_of l
  unfolding priority_of plain
  priority_is h e = simp (reads, le-leb x most_priority h, spelt e)

-- within its length the characters of a name decide
pub name_is : (l : List ℕ) → 1 ≤ length l → length l ≤ most_name → is_name l ≡ all_of is_name_character l
unfolding is_name
name_is l h k = simp (le-leb 1 (length l) h, le-leb (length l) most_name k)

-- an address from its number
pub by_digits : (version : ℕ) (l : List ℕ) → length l ≡ 2 * width_of version → {x : ℕ} → read_digits 16 l ≡ Some x → Node (address_of version x) ≡ version_entry version l
unfolding version_entry address_entry
by_digits version l size e = rw (eq-eqb (length l) (2 * width_of version) size, e)
