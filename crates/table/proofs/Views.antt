-- The slots of a table, by the number of the record in which a pair is found.
use Rattle.std.specs.Prelude.{Some}
use Prim.Native.Nat.{ℕ, ◌+◌, ◌*◌, ◌≤◌, ◌<◌}
use mathlib.Core.Bool.{Bool, true, false, ◌&&◌, ◌||◌}
use mathlib.Core.List.{List}
use mathlib.Core.Path.{◌≡◌, refl, sym, ap, ◌∙◌, subst}
use native.Mathlib.Nat.{add-zero}
use native.Mathlib.Omega.{arith}
use lib.Dec.{eqb, leb, ltb}
use lib.ListN.{length}
use lib.Seq.{sets}
use borrow.Author.Tests.{eqb-true, ne_eqb, leb-true, le-leb, lt-ltb, le-ltb}
use Rattle.octets.specs.Digits.{field, number, number_from}
use Rattle.octets.specs.Part.{part, same, zeros, zeros_at}
use Rattle.octets.specs.Search.{all_of}
use Rattle.octets.proofs.Parts.{same_equal}
use Rattle.octets.proofs.Rows.{length_row, row_distinct, row_passes}
use Rattle.octets.proofs.Splices.{part_part}
use Rattle.octets.proofs.Search.{and_left, and_right, and_false, either, least_first, least_passes, lower}
use Rattle.record.specs.Octets.{line_from, record_length}
use Rattle.record.specs.Sound.{is_record, line_sound, line_written}
use Rattle.table.specs.Slots.{pair_in, is_of, is_open, line_at, slot_line, open_pairs, pairs_once, replaced, same_pair, slot_at, slot_from, slots_of}
use Rattle.table.specs.Table.{has_pair, is_table, pair_at, record_of, slot, slot_sound, table_length}
use Rattle.table.proofs.Found.{row_closed, row_line, row_open, row_replaced}
use Rattle.table.proofs.Puts.{Kept, pair_from, pair_in_lem, slot_here, slot_other, table_apart, table_kept}
use Rattle.table.proofs.Room.{is_paired, has_room}

-- a record has a pair exactly if its slot is of that pair
has_pair_lem : (l : List ℕ) (pair i : ℕ) → is_of pair (slot_at l i) ≡ has_pair l pair i
unfolding is_of has_pair
has_pair_lem l pair i = ap (λ (k : ℕ). eqb k pair) (pair_in_lem l i)

module _ (l : List ℕ) (pair : ℕ) where
  -- no record before the one that is found has the pair
  pub not_before : (j : ℕ) → j < record_of l pair → is_of pair (slot_at l j) ≡ false
  unfolding record_of
  not_before j h = has_pair_lem l pair j ∙ least_first 32 (has_pair l pair) j h

  module _ (found : record_of l pair < 32) where
    pub found_has : is_of pair (slot_at l (record_of l pair)) ≡ true
    unfolding record_of
    found_has = has_pair_lem l pair (record_of l pair) ∙ least_passes 32 (has_pair l pair) found

    pub found_pair : pair_at l (record_of l pair) ≡ pair
    unfolding is_of
    found_pair = sym (pair_in_lem l (record_of l pair)) ∙ eqb-true (pair_in (slot_at l (record_of l pair))) pair found_has

    found_open : is_open pair (slots_of l) ≡ true
    unfolding slots_of
    found_open = row_open (slot_at l) pair (record_of l pair) found_has 32 found not_before

    -- the octets of that record begin with the pair
    pub slot_pair : field (slot l (record_of l pair)) 0 1 ≡ pair
    unfolding slot_at
    slot_pair = sym (pair_from (slot l (record_of l pair))) ∙ pair_in_lem l (record_of l pair) ∙ found_pair

    pub line_found_lem : 1 ≤ pair → line_at pair (slots_of l) ≡ Some (line_from (slot l (record_of l pair)))
    unfolding slots_of slot_at slot_from slot_line
    line_found_lem low =
        let s = slot l (record_of l pair) in
        row_line (slot_at l) pair (record_of l pair) found_has 32 found not_before ∙ rw (ne_eqb (field s 0 1) 0 (λ e. omega (arith, slot_pair)))

    -- the slots with other octets in the record that is found
    pub slots_after_lem : length l ≡ table_length → (s : List ℕ) → length s ≡ record_length
        → slots_of (sets l (record_length * record_of l pair) s) ≡ replaced pair (slot_from s) (slots_of l)
    unfolding slots_of slot_at
    slots_after_lem size s wide =
        let i = record_of l pair in
        row_replaced (slot_at l) pair i found_has 32 found not_before (slot_at (sets l (record_length * i) s)) (slot_from s)
        (λ j apart. ap slot_from (slot_other l size i found s wide j apart)) (ap slot_from (slot_here l size i found s wide))

  not_open : 32 ≤ record_of l pair → is_open pair (slots_of l) ≡ false
  unfolding slots_of
  not_open none = row_closed (slot_at l) pair 32 (λ j h. not_before j (omega arith))

  pub open_found : is_open pair (slots_of l) ≡ ltb (record_of l pair) 32
  open_found =
      lower (record_of l pair) 32 (λ found. found_open found ∙ sym (lt-ltb (record_of l pair) 32 found))
      (λ none. not_open none ∙ sym (le-ltb (record_of l pair) 32 none))

-- the same of a record that is the one found
pub pair_there : (l : List ℕ) {pair i : ℕ} → i ≡ record_of l pair → i < 32 → field (slot l i) 0 1 ≡ pair
pair_there l {pair} {i} found within =
    let there : record_of l pair < 32 = omega (arith, found) in
    ap (λ (k : ℕ). field (slot l k) 0 1) found ∙ slot_pair l pair there

pub zeros_pair : field (zeros record_length) 0 1 ≡ 0
unfolding field number number_from part zeros
zeros_pair = refl

or_false : (b : Bool) → b || false ≡ b
or_false true = refl
or_false false = refl

-- the pair of a record that is free or sound
kept_pair : (s : List ℕ) → Kept s → field s 0 1 ≤ 64
unfolding is_record
kept_pair s kept = go (same s (zeros record_length)) refl kept
  where
    go : (b : Bool) → same s (zeros record_length) ≡ b → b || is_record s ≡ true → field s 0 1 ≤ 64
    go true e h =
        let none : field s 0 1 ≡ 0 = ap (λ (t : List ℕ). field t 0 1) (same_equal s (zeros record_length) e) ∙ zeros_pair in
        omega arith
    go false e h =
        leb-true (field s 0 1) 64 (and_right (leb 1 (field s 0 1)) (leb (field s 0 1) 64) (and_left (leb 1 (field s 0 1) && leb (field s 0 1) 64) (line_written s) (and_left (leb 1 (field s 0 1) && leb (field s 0 1) 64 && line_written s) (line_sound (line_from s)) h)))

-- a record without a pair is sound exactly where it is zeros, and one with a pair is not zeros
module _ (l : List ℕ) (i : ℕ) where
  pub own_pair : field (slot l i) 0 1 ≡ pair_at l i
  unfolding slot_at
  own_pair = sym (pair_from (slot l i)) ∙ pair_in_lem l i

  pub own_zeros : zeros_at (slot l i) 0 record_length ≡ zeros_at l (record_length * i) record_length
  unfolding zeros_at slot
  own_zeros = ap (λ (s : List ℕ). same s (zeros record_length)) (part_part l (record_length * i) record_length 0 record_length (omega arith) ∙ rw add-zero)

  pub pairless : pair_at l i ≡ 0 → zeros_at l (record_length * i) record_length ≡ slot_sound l i
  unfolding slot_sound is_record
  pairless e = sym (rw (own_pair ∙ e) (or_false (zeros_at l (record_length * i) record_length)))

  pub paired : (pair_at l i ≡ 0 → ⊥) → (s : List ℕ) → s ≡ slot l i → is_record s ≡ slot_sound l i
  unfolding slot_sound zeros_at slot
  paired h s q = ap is_record q ∙ go (same (slot l i) (zeros record_length)) refl
    where
      go : (b : Bool) → same (slot l i) (zeros record_length) ≡ b → is_record (slot l i) ≡ b || is_record (slot l i)
      go true e = absurd (h (sym own_pair ∙ ap (λ (t : List ℕ). field t 0 1) (same_equal (slot l i) (zeros record_length) e) ∙ zeros_pair))
      go false e = refl

  pub sound_pair : slot_sound l i ≡ true → pair_at l i ≤ 64
  unfolding slot_sound zeros_at slot
  sound_pair sound = subst (λ (k : ℕ). k ≤ 64) own_pair (kept_pair (slot l i) sound)

module _ (l : List ℕ) (sound : is_table l ≡ true) where
  -- no pair of a sound table is in two slots
  pub slots_once : pairs_once (slots_of l) ≡ true
  unfolding pairs_once slots_of same_pair is_of
  slots_once = row_distinct (slot_at l) same_pair 0 32 differ
    where
      differ : (i j : ℕ) → i < j → j < 0 + 32 → same_pair (slot_at l i) (slot_at l j) ≡ false
      differ i j h m =
          let apart : pair_at l i ≡ pair_at l j → pair_at l i ≡ 0 = table_apart l sound i j (omega arith) (omega arith) (λ e. omega arith) in
          either (pair_in (slot_at l i)) 0 (λ e. rw e)
          (λ used. and_false (leb 1 (pair_in (slot_at l i))) (is_of (pair_in (slot_at l i)) (slot_at l j))
          (ne_eqb (pair_in (slot_at l j)) (pair_in (slot_at l i)) (λ e. used (pair_in_lem l i ∙ apart (sym (pair_in_lem l i) ∙ sym e ∙ pair_in_lem l j)))))

  slots_paired : all_of is_paired (slots_of l) ≡ true
  unfolding slots_of slot_at is_paired
  slots_paired =
      row_passes (slot_at l) is_paired 0 32
      (λ i h. le-leb (pair_in (slot_at l i)) 64 (subst (λ (k : ℕ). k ≤ 64) (sym (pair_from (slot l i))) (kept_pair (slot l i) (table_kept l sound i (omega arith)))))

  pub room : is_open 0 (slots_of l) ≡ ltb (open_pairs (slots_of l)) 32
  unfolding slots_of
  room = has_room (slots_of l) slots_once slots_paired ∙ ap (ltb (open_pairs (slots_of l))) (length_row (slot_at l) 0 32)
