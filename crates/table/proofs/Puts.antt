-- The table with other octets in one record.
use Prim.Native.Nat.{ℕ, ◌*◌, ◌<◌}
use mathlib.Core.Bool.{Bool, true, false, not, ◌&&◌, ◌||◌, true≢false}
use mathlib.Core.List.{List}
use mathlib.Core.Path.{◌≡◌, refl, sym, ap, ◌∙◌, subst}
use native.Mathlib.Nat.{add-zero}
use native.Mathlib.Omega.{arith}
use lib.Dec.{eqb}
use lib.ListN.{length}
use lib.Seq.{sets, length-sets}
use borrow.Author.Tests.{eqb-true, eq-eqb, ne_eqb, not-true}
use Rattle.octets.specs.Digits.{field}
use Rattle.octets.specs.Part.{part, same, zeros, zeros_at}
use Rattle.octets.specs.Search.{all}
use Rattle.octets.proofs.Search.{and_left, and_right, and_true, all_each, each_all, either, lower}
use Rattle.octets.proofs.Splices.{part_before, part_behind, part_here, field_part}
use Rattle.record.specs.Octets.{record_length}
use Rattle.record.specs.Sound.{is_record}
use Rattle.table.specs.Slots.{pair_in, slot_at, slot_from}
use Rattle.table.specs.Table.{has_pair, is_table, lacks_pair, pair_at, pair_once, slot, slot_sound, table_length}

-- the pair of a record is that of its slot
pub pair_from : (s : List ℕ) → pair_in (slot_from s) ≡ field s 0 1
unfolding slot_from pair_in
pair_from s = either (field s 0 1) 0 (λ e. rw (eq-eqb (field s 0 1) 0 e) (sym e)) (λ h. rw (ne_eqb (field s 0 1) 0 h))

pub pair_in_lem : (l : List ℕ) (i : ℕ) → pair_in (slot_at l i) ≡ pair_at l i
unfolding slot_at pair_at slot
pair_in_lem l i = pair_from (slot l i) ∙ field_part l (record_length * i) record_length 0 1 (omega arith) ∙ ap (λ (k : ℕ). field l k 1) (add-zero (record_length * i))

-- a record's octets are free or sound
abbrev pub Kept : List ℕ → Type 0
Kept s = same s (zeros record_length) || is_record s ≡ true

-- the pair of one record is that of no other
abbrev pub Apart : List ℕ → Type 0
Apart l = (i j : ℕ) → i < 32 → j < 32 → (i ≡ j → ⊥) → pair_at l i ≡ pair_at l j → pair_at l i ≡ 0

module _ (l : List ℕ) (sound : is_table l ≡ true) where
  pub table_length_lem : length l ≡ table_length
  unfolding is_table
  table_length_lem = eqb-true (length l) table_length (and_left (eqb (length l) table_length) (all 32 (slot_sound l)) (and_left (eqb (length l) table_length && all 32 (slot_sound l)) (all 32 (pair_once l)) sound))

  pub table_kept : (i : ℕ) → i < 32 → Kept (slot l i)
  unfolding is_table slot_sound zeros_at slot
  table_kept = all_each 32 (slot_sound l) (and_right (eqb (length l) table_length) (all 32 (slot_sound l)) (and_left (eqb (length l) table_length && all 32 (slot_sound l)) (all 32 (pair_once l)) sound))

  once : (i : ℕ) → i < 32 → pair_once l i ≡ true
  unfolding is_table
  once = all_each 32 (pair_once l) (and_right (eqb (length l) table_length && all 32 (slot_sound l)) (all 32 (pair_once l)) sound)

  -- a record is free or has another pair than those before it
  before : (i j : ℕ) → i < 32 → j < i → pair_at l i ≡ pair_at l j → pair_at l i ≡ 0
  unfolding pair_once lacks_pair has_pair
  before i j h less e = go (eqb (pair_at l i) 0) refl (once i h)
    where
      go : (b : Bool) → eqb (pair_at l i) 0 ≡ b → b || all i (lacks_pair l (pair_at l i)) ≡ true → pair_at l i ≡ 0
      go true q a = eqb-true (pair_at l i) 0 q
      go false q a = absurd (true≢false (sym (eq-eqb (pair_at l j) (pair_at l i) (sym e)) ∙ not-true (eqb (pair_at l j) (pair_at l i)) (all_each i (lacks_pair l (pair_at l i)) a j less)))

  pub table_apart : Apart l
  table_apart i j h k apart e =
      lower i j (λ below. e ∙ before j i k below (sym e)) (λ above. before i j h (omega arith) e)

-- records apart have each pair once
once_of : (l : List ℕ) → Apart l → (i : ℕ) → i < 32 → pair_once l i ≡ true
unfolding pair_once lacks_pair has_pair
once_of l apart i h = either (pair_at l i) 0 (λ e. rw (eq-eqb (pair_at l i) 0 e)) (λ used. rw (ne_eqb (pair_at l i) 0 used) (each_all i (lacks_pair l (pair_at l i)) (λ j lower. ap not (ne_eqb (pair_at l j) (pair_at l i) (λ e. used (apart i j h (omega arith) (λ q. omega arith) (sym e)))))))

-- a table of the right length whose records are kept and apart is sound
pub is_table_lem : (l : List ℕ) → length l ≡ table_length → ((i : ℕ) → i < 32 → Kept (slot l i)) → Apart l → is_table l ≡ true
unfolding is_table slot_sound zeros_at slot
is_table_lem l size kept apart =
    and_true (eqb (length l) table_length && all 32 (slot_sound l)) (all 32 (pair_once l))
    (and_true (eqb (length l) table_length) (all 32 (slot_sound l)) (eq-eqb (length l) table_length size) (each_all 32 (slot_sound l) kept))
    (each_all 32 (pair_once l) (once_of l apart))

module _ (l : List ℕ) (size : length l ≡ table_length) (i : ℕ) (inside : i < 32) (s : List ℕ) (wide : length s ≡ record_length) where
  abbrev after : List ℕ
  after = sets l (record_length * i) s

  pub slot_other : (j : ℕ) → (j ≡ i → ⊥) → slot after j ≡ slot l j
  unfolding slot
  slot_other j apart =
      lower j i (λ below. part_before l (record_length * i) s (record_length * j) record_length (omega arith)) (λ above. part_behind l (record_length * i) s (record_length * j) record_length (omega (arith, wide)))

  pub slot_here : slot after i ≡ s
  unfolding slot
  slot_here = ap (part after (record_length * i)) (sym wide) ∙ part_here l (record_length * i) s (omega (arith, wide, size))

  pub pair_other : (j : ℕ) → (j ≡ i → ⊥) → pair_at after j ≡ pair_at l j
  unfolding slot_at
  pair_other j apart = sym (pair_in_lem after j) ∙ ap (λ (t : List ℕ). pair_in (slot_from t)) (slot_other j apart) ∙ pair_in_lem l j

  pub pair_here : pair_at after i ≡ field s 0 1
  unfolding slot_at
  pair_here = sym (pair_in_lem after i) ∙ ap (λ (t : List ℕ). pair_in (slot_from t)) slot_here ∙ pair_from s

  -- a table stays sound where the new octets are kept and their pair is no other record's
  module _ (sound : is_table l ≡ true) (kept : Kept s) (new : (j : ℕ) → j < 32 → (j ≡ i → ⊥) → pair_at l j ≡ field s 0 1 → field s 0 1 ≡ 0) where
    each_kept : (j : ℕ) → j < 32 → Kept (slot after j)
    each_kept j h =
        either j i (λ e. subst (λ (t : List ℕ). Kept t) (sym (ap (slot after) e ∙ slot_here)) kept)
        (λ apart. subst (λ (t : List ℕ). Kept t) (sym (slot_other j apart)) (table_kept l sound j h))

    apart_after : Apart after
    apart_after j k h m apart e =
        either j i (λ p. at_j p) (λ p. either k i (λ q. at_k p q) (λ q. neither p q))
      where
        neither : (j ≡ i → ⊥) → (k ≡ i → ⊥) → pair_at after j ≡ 0
        neither p q = pair_other j p ∙ table_apart l sound j k h m apart (sym (pair_other j p) ∙ e ∙ pair_other k q)

        at_k : (j ≡ i → ⊥) → k ≡ i → pair_at after j ≡ 0
        at_k p q =
            let own : pair_at after j ≡ field s 0 1 = e ∙ ap (pair_at after) q ∙ pair_here in
            own ∙ new j h p (sym (pair_other j p) ∙ own)

        at_j : j ≡ i → pair_at after j ≡ 0
        at_j p =
            let away : k ≡ i → ⊥ = λ q. apart (p ∙ sym q) in
            let own : pair_at after j ≡ field s 0 1 = ap (pair_at after) p ∙ pair_here in
            own ∙ new k m away (sym (pair_other k away) ∙ sym e ∙ own)

    pub table_after_lem : is_table after ≡ true
    table_after_lem = is_table_lem after (length-sets l (record_length * i) s ∙ size) each_kept apart_after
