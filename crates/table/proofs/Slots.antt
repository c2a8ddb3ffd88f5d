-- The laws of records by number.
use Prim.Native.Nat.{ℕ, ◌+◌, ◌≤◌, ◌<◌}
use mathlib.Core.Bool.{Bool, true, false, ◌&&◌}
use mathlib.Core.List.{List}
use mathlib.Core.Path.{◌≡◌, refl, sym, ap, ◌∙◌, subst}
use native.Mathlib.Numerals.{add-one}
use native.Mathlib.Omega.{arith}
use lib.ListN.{length}
use borrow.Author.Tests.{eq-eqb, ne_eqb}
use Rattle.octets.specs.Digits.{field}
use Rattle.octets.specs.Search.{all, least}
use Rattle.octets.proofs.Search.{and_false, all_fails, least_found, least_more}
use Rattle.record.specs.Octets.{record_length}
use Rattle.record.specs.Sound.{is_record}
use Rattle.record.proofs.Sounds.{child_octet, hold_octet}
use Rattle.table.specs.Table.{has_pair, is_table, pair_at, pair_once, slot_sound, table_length}

-- the first record with a pair, of those before n
module _ (l : List ℕ) (pair : ℕ) where
  pub pair_here : (i n : ℕ) → least i (has_pair l pair) ≡ i → i < n → pair_at l i ≡ pair → i ≡ least n (has_pair l pair)
  unfolding has_pair
  pair_here i n none h e = sym (least_found n (has_pair l pair) i none (eq-eqb (pair_at l i) pair e) h)

  pub pair_more : (i : ℕ) → least i (has_pair l pair) ≡ i → (pair_at l i ≡ pair → ⊥) → least (i + 1) (has_pair l pair) ≡ i + 1
  unfolding has_pair
  pair_more i none h = rw add-one (least_more i (has_pair l pair) none (ne_eqb (pair_at l i) pair h))

-- the whole table
module _ (l : List ℕ) where
  pub wrong_length : (length l ≡ table_length → ⊥) → false ≡ is_table l
  unfolding is_table
  wrong_length h = sym (rw (ne_eqb (length l) table_length h))

  module _ (size : length l ≡ table_length) (i : ℕ) where
    -- a record that is not sound, or whose pair a record before it has
    pub bad_record : i + 1 ≤ 32 → slot_sound l i && pair_once l i ≡ false → false ≡ is_table l
    unfolding is_table
    bad_record h e = sym (rw (eq-eqb (length l) table_length size) (go (slot_sound l i) refl e))
      where
        go : (b : Bool) → slot_sound l i ≡ b → b && pair_once l i ≡ false → all 32 (slot_sound l) && all 32 (pair_once l) ≡ false
        go true q f = and_false (all 32 (slot_sound l)) (all 32 (pair_once l)) (all_fails 32 (pair_once l) i (omega arith) f)
        go false q f = rw (all_fails 32 (slot_sound l) i (omega arith) q)

    pub all_sound : i ≡ 32 → all i (slot_sound l) ≡ true → all i (pair_once l) ≡ true → true ≡ is_table l
    unfolding is_table
    all_sound e a b =
        let slots : all 32 (slot_sound l) ≡ true = subst (λ (k : ℕ). all k (slot_sound l) ≡ true) e a in
        let pairs : all 32 (pair_once l) ≡ true = subst (λ (k : ℕ). all k (pair_once l) ≡ true) e b in
        sym (rw (eq-eqb (length l) table_length size, slots, pairs))

-- the octets of a sound record can be read
pub slot_reads : (s t : List ℕ) → s ≡ t → length s ≡ record_length → is_record t ≡ true → (record_length ≤ length s) × (field s 25 1 ≤ 8) × (field s 26 1 ≤ 8)
slot_reads s t e size sound =
    let used = ap is_record e ∙ sound in
    (omega arith, hold_octet s used, child_octet s used)
