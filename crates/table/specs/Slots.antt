-- The table as slots, and what becomes of them where one changes.
use Rattle.std.specs.Prelude.{ℕ, suc, ◌*◌, Bool, cond, ◌&&◌, List, [], ◌∷◌, leb, eqb, Option, None, Some}
use Rattle.std.proofs.lemmas.List.Edits.{sets}
use Rattle.octets.specs.Digits.{field}
use Rattle.octets.specs.Part.{zeros}
use Rattle.octets.specs.Row.{row, joined}
use Rattle.octets.specs.Search.{any_of, count, distinct}
use Rattle.record.specs.Line.{Line}
use Rattle.record.specs.Octets.{line_from, record_length, record_octets}
use Rattle.record.specs.Sound.{most_pairs}
use Rattle.table.specs.Table.{record_count, record_of, slot, free_pair}

-- a record as the rules see it: free, or an open pair with its line
pub data Slot : Type 0 where
  Free : Slot
  Used : ℕ → Line → Slot

-- the slot in a record's octets, and back
unfoldable pub slot_from : List ℕ → Slot
slot_from s = cond (eqb (field s 0 1) free_pair) Free (Used (field s 0 1) (line_from s))

unfoldable pub slot_octets : Slot → List ℕ
slot_octets Free = zeros record_length
slot_octets (Used pair x) = record_octets pair x

-- the slots in a table's octets, and back
unfoldable pub slot_at : List ℕ → ℕ → Slot
slot_at l i = slot_from (slot l i)

unfoldable pub slots_of : List ℕ → List Slot
slots_of l = row (slot_at l) 0 record_count

unfoldable pub octets_of : List Slot → List ℕ
octets_of ss = joined slot_octets ss

-- the number of a slot's pair, or that of a free record
unfoldable pub pair_in : Slot → ℕ
pair_in Free = free_pair
pair_in (Used pair x) = pair

unfoldable pub is_of : ℕ → Slot → Bool
is_of pair s = eqb (pair_in s) pair

-- a pair is open; of the free pair, a slot is free
unfoldable pub is_open : ℕ → List Slot → Bool
is_open pair ss = any_of (is_of pair) ss

-- the line of an open pair
unfoldable pub slot_line : Slot → Option Line
slot_line Free = None
slot_line (Used pair x) = Some x

unfoldable pub line_at : ℕ → List Slot → Option Line
line_at pair [] = None
line_at pair (s ∷ ss) = cond (is_of pair s) (slot_line s) (line_at pair ss)

-- no pair twice
unfoldable pub same_pair : Slot → Slot → Bool
same_pair s t = leb 1 (pair_in s) && is_of (pair_in s) t

unfoldable pub pairs_once : List Slot → Bool
pairs_once ss = distinct same_pair ss

-- the pair with a number from 0 on is open
unfoldable pub is_taken : List Slot → ℕ → Bool
is_taken ss k = is_open (suc k) ss

-- how many of the 64 pairs are open
unfoldable pub open_pairs : List Slot → ℕ
open_pairs ss = count most_pairs (is_taken ss)

-- another slot in the place of the first one of a pair: a line changed, added (in the place of a free slot) or dropped (a free slot)
unfoldable pub replaced : ℕ → Slot → List Slot → List Slot
replaced pair s [] = []
replaced pair s (t ∷ ts) = cond (is_of pair t) (s ∷ ts) (t ∷ replaced pair s ts)

-- the same in the table's octets
unfoldable pub put : List ℕ → ℕ → Slot → List ℕ
put l pair s = sets l (record_length * record_of l pair) (slot_octets s)
