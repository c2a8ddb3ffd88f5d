-- Zeros are a sound table with every slot free.
use Prim.Native.Nat.{ℕ, ◌*◌, ◌<◌}
use mathlib.Core.Bool.{Bool, true, ◌||◌}
use mathlib.Core.List.{List}
use mathlib.Core.Path.{◌≡◌, sym, ap, ◌∙◌, subst}
use native.Mathlib.Omega.{arith}
use lib.ListN.{replicate}
use Rattle.octets.specs.Part.{zeros}
use Rattle.octets.proofs.Parts.{equal_same, length_zeros}
use Rattle.octets.proofs.Rows.{row_of}
use Rattle.octets.proofs.Splices.{part_zeros}
use Rattle.record.specs.Octets.{record_length}
use Rattle.record.specs.Sound.{is_record}
use Rattle.table.specs.Slots.{Free, pair_in, slot_at, slot_from, slots_of}
use Rattle.table.specs.Table.{is_table, pair_at, slot, table_length}
use Rattle.table.proofs.Puts.{Kept, is_table_lem, pair_in_lem}
use Rattle.table.proofs.Views.{zeros_pair}

module _ (i : ℕ) (h : i < 32) where
  slot_zeros : slot (zeros table_length) i ≡ zeros record_length
  unfolding slot
  slot_zeros = part_zeros table_length (record_length * i) record_length (omega arith)

  slot_free : slot_at (zeros table_length) i ≡ Free
  unfolding slot_at slot_from
  slot_free = ap slot_from slot_zeros ∙ rw zeros_pair

  kept_zeros : Kept (slot (zeros table_length) i)
  kept_zeros = subst (λ (s : List ℕ). Kept s) (sym slot_zeros) (ap (λ (b : Bool). b || is_record (zeros record_length)) (equal_same (zeros record_length)))

  no_pair : pair_at (zeros table_length) i ≡ 0
  unfolding pair_in
  no_pair = sym (pair_in_lem (zeros table_length) i) ∙ ap pair_in slot_free

pub empty_sound : is_table (zeros table_length) ≡ true
empty_sound = is_table_lem (zeros table_length) (length_zeros table_length) kept_zeros (λ i j h k apart e. no_pair i h)

pub empty_free : slots_of (zeros table_length) ≡ replicate 32 Free
unfolding slots_of
empty_free = row_of (slot_at (zeros table_length)) Free 0 32 (λ i h. slot_free i (omega arith))
