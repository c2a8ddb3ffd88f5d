-- What holds of the table's octets and of its slots, for every table, pair and line; the function `laws` promises it.
use Rattle.std.specs.Prelude.{ℕ, ◌≤◌, ◌<◌, Bool, true, false, not, ◌&&◌, ◌||◌, List, ◌≡◌, leb, ltb, replicate, None, Some, is_some}
use Rattle.octets.specs.Laws.{below}
use Rattle.octets.specs.Part.{zeros}
use Rattle.octets.specs.Search.{all_of}
use Rattle.record.specs.Laws.{line_storable}
use Rattle.record.specs.Octets.{line_from}
use Rattle.record.specs.Sound.{line_sound, most_pairs}
use Rattle.table.specs.Slots.{Slot, Free, Used, is_of, is_open, line_at, octets_of, open_pairs, pair_in, pairs_once, put, replaced, slot_line, slot_octets, slots_of}
use Rattle.table.specs.Table.{is_table, pair_at, record_count, record_of, slot, table_length, free_pair}

-- a record can hold a slot
unfoldable pub slot_fits : Slot → Bool
slot_fits Free = true
slot_fits (Used pair x) = leb 1 pair && leb pair most_pairs && line_sound x && line_storable x

-- a slot may stand in the place of a pair's: it is free, of the same pair, or of one that is not open
unfoldable pub may_stand : ℕ → Slot → List Slot → Bool
may_stand pair s ss = is_of free_pair s || is_of pair s || not (is_open (pair_in s) ss)

pub record Laws : Type 0 where
  -- zeros are a sound table with every slot free
  pub empty_sound : is_table (zeros table_length) ≡ true
  pub empty_free : slots_of (zeros table_length) ≡ replicate record_count Free
  -- a pair stands in one record of a sound table
  pub pair_once_lem : (l : List ℕ) → is_table l ≡ true → (i j : ℕ) → i < record_count → j < record_count → 1 ≤ pair_at l i → pair_at l i ≡ pair_at l j → i ≡ j
  pub slots_once : (l : List ℕ) → is_table l ≡ true → pairs_once (slots_of l) ≡ true
  -- a pair is open exactly where its record is found, and its line is the one in that record
  pub open_found : (l : List ℕ) (pair : ℕ) → is_open pair (slots_of l) ≡ ltb (record_of l pair) record_count
  pub line_found_lem : (l : List ℕ) (pair : ℕ) → record_of l pair < record_count → 1 ≤ pair → line_at pair (slots_of l) ≡ Some (line_from (slot l (record_of l pair)))
  -- a slot is free exactly where fewer pairs than records are open
  pub room : (l : List ℕ) → is_table l ≡ true → is_open free_pair (slots_of l) ≡ ltb (open_pairs (slots_of l)) record_count
  -- the octets of a sound table are its slots written back
  pub written_back : (l : List ℕ) → all_of (below 256) l ≡ true → is_table l ≡ true → octets_of (slots_of l) ≡ l
  -- a slot that is put stands in its record, zeros where it is free; every other record has its octets
  pub put_here : (l : List ℕ) (pair : ℕ) (s : Slot) → is_table l ≡ true → record_of l pair < record_count → slot_fits s ≡ true
      → slot (put l pair s) (record_of l pair) ≡ slot_octets s
  pub put_others : (l : List ℕ) (pair : ℕ) (s : Slot) → is_table l ≡ true → record_of l pair < record_count → slot_fits s ≡ true
      → (j : ℕ) → (j ≡ record_of l pair → ⊥) → slot (put l pair s) j ≡ slot l j
  -- a slot that is put is read back, and the table stays sound and of octets
  pub put_slots : (l : List ℕ) (pair : ℕ) (s : Slot) → is_table l ≡ true → record_of l pair < record_count → slot_fits s ≡ true
      → slots_of (put l pair s) ≡ replaced pair s (slots_of l)
  pub put_sound : (l : List ℕ) (pair : ℕ) (s : Slot) → is_table l ≡ true → record_of l pair < record_count → slot_fits s ≡ true
      → may_stand pair s (slots_of l) ≡ true → is_table (put l pair s) ≡ true
  pub put_octets : (l : List ℕ) (pair : ℕ) (s : Slot) → all_of (below 256) l ≡ true → all_of (below 256) (put l pair s) ≡ true
  -- lines after a change: of the pair changed, added or dropped, and of every other
  pub line_changed : (pair : ℕ) (s : Slot) → pair_in s ≡ pair → (ss : List Slot) → is_open pair ss ≡ true → line_at pair (replaced pair s ss) ≡ slot_line s
  pub line_added : (pair : ℕ) (s : Slot) (ss : List Slot) → is_open pair ss ≡ true → is_open (pair_in s) ss ≡ false
      → line_at (pair_in s) (replaced pair s ss) ≡ slot_line s
  pub line_dropped : (pair : ℕ) (s : Slot) → 1 ≤ pair → (pair_in s ≡ pair → ⊥) → (ss : List Slot) → pairs_once ss ≡ true
      → line_at pair (replaced pair s ss) ≡ None
  pub line_other : (pair : ℕ) (s : Slot) (q : ℕ) → (pair ≡ q → ⊥) → (pair_in s ≡ q → ⊥) → (ss : List Slot)
      → line_at q (replaced pair s ss) ≡ line_at q ss
  -- a pair is open exactly where it has a line
  pub open_line : (pair : ℕ) → 1 ≤ pair → (ss : List Slot) → is_open pair ss ≡ is_some (line_at pair ss)
