-- A slot put into the table's octets.
use Prim.Native.Nat.{ℕ, ◌*◌, ◌≤◌, ◌<◌}
use mathlib.Core.Bool.{Bool, true, false, not, ◌&&◌, ◌||◌}
use mathlib.Core.List.{List}
use mathlib.Core.Path.{◌≡◌, refl, sym, ap, ap₂, ◌∙◌}
use native.Mathlib.Nat.{zero-add}
use native.Mathlib.Omega.{arith}
use lib.Dec.{leb}
use lib.ListN.{length}
use borrow.Author.Tests.{eqb-true, eqb-false, ne_eqb, leb-true, ltb-false, not-true}
use Rattle.octets.specs.Digits.{field}
use Rattle.octets.specs.Laws.{below}
use Rattle.octets.specs.Part.{part, zeros, same}
use Rattle.octets.specs.Search.{all_of}
use Rattle.octets.proofs.Elements.{joined_back}
use Rattle.octets.proofs.Fields.{all_of_part, part_whole}
use Rattle.octets.proofs.Octets.{zeros_octets}
use Rattle.octets.proofs.Parts.{equal_same, length_part, length_zeros, same_equal}
use Rattle.octets.proofs.Search.{and_left, and_right, either, or_true}
use Rattle.octets.proofs.Splices.{sets_pass}
use Rattle.record.specs.Laws.{line_storable}
use Rattle.record.specs.Line.{Line}
use Rattle.record.specs.Octets.{line_from, record_octets, record_length}
use Rattle.record.specs.Sound.{is_record, line_sound, line_written}
use Rattle.record.proofs.RoundTrip.{few_children, few_holds, octets, pair_back, read_back, sound_back, write_back}
use Rattle.record.proofs.Writing.{octet_count}
use Rattle.table.specs.Laws.{may_stand, slot_fits}
use Rattle.table.specs.Slots.{Slot, Free, Used, is_of, is_open, octets_of, pair_in, put, replaced, slot_at, slot_from, slot_octets, slots_of}
use Rattle.table.specs.Table.{is_table, pair_at, record_of, slot, table_length}
use Rattle.table.proofs.Puts.{Kept, pair_from, pair_in_lem, slot_here, slot_other, table_after_lem, table_apart, table_kept, table_length_lem}
use Rattle.table.proofs.Views.{found_pair, not_before, open_found, slots_after_lem, zeros_pair}

-- what a slot's octets are where a record can hold it
pub record Storable (s : Slot) : Type 0 where
  pub wide : length (slot_octets s) ≡ record_length
  pub kept : Kept (slot_octets s)
  pub back : slot_from (slot_octets s) ≡ s

-- the slot of octets with a pair and a line
slot_of : (o : List ℕ) (pair : ℕ) (x : Line) → 1 ≤ pair → field o 0 1 ≡ pair → line_from o ≡ x → slot_from o ≡ Used pair x
unfolding slot_from
slot_of o pair x low e f = rw (ne_eqb (field o 0 1) 0 (λ q. omega arith)) (ap₂ Used e f)

pub storable : (s : Slot) → slot_fits s ≡ true → Storable s
unfolding slot_fits slot_octets slot_from
storable Free e = record {
  wide = length_zeros record_length;
  kept = ap (λ (b : Bool). b || is_record (zeros record_length)) (equal_same (zeros record_length));
  back = rw zeros_pair;
}
storable (Used pair x) e =
    let fits = leb 1 pair && leb pair 64 in
    let line : fits && line_sound x ≡ true = and_left (fits && line_sound x) (line_storable x) e in
    let sound : line_sound x ≡ true = and_right fits (line_sound x) line in
    let in-octets : line_storable x ≡ true = and_right (fits && line_sound x) (line_storable x) e in
    let low : 1 ≤ pair = leb-true 1 pair (and_left (leb 1 pair) (leb pair 64) (and_left fits (line_sound x) line)) in
    let high : pair ≤ 64 = leb-true pair 64 (and_right (leb 1 pair) (leb pair 64) (and_left fits (line_sound x) line)) in
    record {
      wide = octet_count pair x (few_holds x sound) (few_children x sound);
      kept = or_true (same (record_octets pair x) (zeros record_length)) (is_record (record_octets pair x)) (sound_back pair x low high sound in-octets);
      back = slot_of (record_octets pair x) pair x low (pair_back pair x (omega arith)) (read_back pair x sound in-octets);
    }

-- the octets of a slot that is read back say its pair
pub held_pair : (s : Slot) → Storable s → field (slot_octets s) 0 1 ≡ pair_in s
held_pair s h = sym (pair_from (slot_octets s)) ∙ ap pair_in h.back

module _ (l : List ℕ) (pair : ℕ) (s : Slot) (sound : is_table l ≡ true) (found : record_of l pair < 32) (h : Storable s) where
  abbrev i : ℕ
  i = record_of l pair

  pub put_here : slot (put l pair s) i ≡ slot_octets s
  unfolding put
  put_here = slot_here l (table_length_lem l sound) i found (slot_octets s) h.wide

  pub put_others : (j : ℕ) → (j ≡ i → ⊥) → slot (put l pair s) j ≡ slot l j
  unfolding put
  put_others = slot_other l (table_length_lem l sound) i found (slot_octets s) h.wide

  pub put_slots : slots_of (put l pair s) ≡ replaced pair s (slots_of l)
  unfolding put
  put_slots = slots_after_lem l pair found (table_length_lem l sound) (slot_octets s) h.wide ∙ ap (λ (t : Slot). replaced pair t (slots_of l)) h.back

  -- no other record has the pair of a slot that may stand
  module _ (j : ℕ) (within : j < 32) (apart : j ≡ i → ⊥) (e : pair_at l j ≡ pair_in s) where
    of_pair : is_of pair s ≡ true → pair_in s ≡ 0
    unfolding is_of
    of_pair q =
        let own : pair_in s ≡ pair = eqb-true (pair_in s) pair q in
        sym e ∙ table_apart l sound j i within found apart (e ∙ own ∙ sym (found_pair l pair found))

    of_none : not (is_open (pair_in s) (slots_of l)) ≡ true → pair_in s ≡ 0
    unfolding is_of
    of_none q =
        let none : 32 ≤ record_of l (pair_in s) = ltb-false (record_of l (pair_in s)) 32 (sym (open_found l (pair_in s)) ∙ not-true (is_open (pair_in s) (slots_of l)) q) in
        absurd (eqb-false (pair_in (slot_at l j)) (pair_in s) (not_before l (pair_in s) j (omega arith)) (pair_in_lem l j ∙ e))

    new_pair : may_stand pair s (slots_of l) ≡ true → pair_in s ≡ 0
    unfolding may_stand is_of
    new_pair q = go (is_of 0 s) (is_of pair s) refl refl q
      where
        go : (a b : Bool) → is_of 0 s ≡ a → is_of pair s ≡ b → a || b || not (is_open (pair_in s) (slots_of l)) ≡ true → pair_in s ≡ 0
        go true b f g r = eqb-true (pair_in s) 0 f
        go false true f g r = of_pair g
        go false false f g r = of_none r

  pub put_sound : may_stand pair s (slots_of l) ≡ true → is_table (put l pair s) ≡ true
  unfolding put
  put_sound may =
      let own : field (slot_octets s) 0 1 ≡ pair_in s = held_pair s h in
      table_after_lem l (table_length_lem l sound) i found (slot_octets s) h.wide sound h.kept (λ j within apart e. own ∙ new_pair j within apart (e ∙ own) may)

-- a slot is written in octets, and so is a table into which it is put
slot_octets_lem : (s : Slot) → all_of (below 256) (slot_octets s) ≡ true
unfolding slot_octets
slot_octets_lem Free = (zeros_octets record_length).octets
slot_octets_lem (Used pair x) = octets pair x

pub put_octets : (l : List ℕ) (pair : ℕ) (s : Slot) → all_of (below 256) l ≡ true → all_of (below 256) (put l pair s) ≡ true
unfolding put
put_octets l pair s h = sets_pass (below 256) l (record_length * record_of l pair) (slot_octets s) h (slot_octets_lem s)

-- a sound record has a pair
used_pair : (t : List ℕ) → is_record t ≡ true → field t 0 1 ≡ 0 → ⊥
unfolding is_record
used_pair t k q =
    let f = field t 0 1 in
    let low : 1 ≤ f = leb-true 1 f (and_left (leb 1 f) (leb f 64) (and_left (leb 1 f && leb f 64) (line_written t) (and_left (leb 1 f && leb f 64 && line_written t) (line_sound (line_from t)) k))) in
    omega arith

-- a record that is free or sound is written back
slot_back : (t : List ℕ) → all_of (below 256) t ≡ true → length t ≡ record_length → Kept t → slot_octets (slot_from t) ≡ t
unfolding slot_octets slot_from is_record
slot_back t h size kept = go (same t (zeros record_length)) refl kept
  where
    go : (b : Bool) → same t (zeros record_length) ≡ b → b || is_record t ≡ true → slot_octets (slot_from t) ≡ t
    go true e k =
        let zero-octets : t ≡ zeros record_length = same_equal t (zeros record_length) e in
        let none : field t 0 1 ≡ 0 = ap (λ (m : List ℕ). field m 0 1) zero-octets ∙ zeros_pair in
        rw none (sym zero-octets)
    go false e k = rw (ne_eqb (field t 0 1) 0 (λ q. used_pair t k q)) (write_back t h size k)

pub written_back : (l : List ℕ) → all_of (below 256) l ≡ true → is_table l ≡ true → octets_of (slots_of l) ≡ l
unfolding octets_of slots_of slot_at slot
written_back l h sound =
    let size : length l ≡ table_length = table_length_lem l sound in
    joined_back slot_octets record_length l 0 (slot_at l) 32
    (λ k less. slot_back (slot l k) (all_of_part (below 256) l (record_length * k) record_length h) (length_part l (record_length * k) record_length (omega arith)) (table_kept l sound k less) ∙ ap (λ (m : ℕ). part l m record_length) (sym (zero-add (record_length * k))))
    ∙ ap (part l 0) (sym size) ∙ part_whole l

-- the record of a pair is the only one
pub pair_once_lem : (l : List ℕ) → is_table l ≡ true → (i j : ℕ) → i < 32 → j < 32 → 1 ≤ pair_at l i → pair_at l i ≡ pair_at l j → i ≡ j
pair_once_lem l sound i j h k used e =
    either i j (λ q. q) (λ apart. let none : pair_at l i ≡ 0 = table_apart l sound i j h k apart e in absurd (omega arith))
