-- The table: records one behind the other, each free or of one pair.
use Rattle.std.specs.Prelude.{ℕ, ◌+◌, ◌*◌, ◌≤◌, Bool, true, not, ◌&&◌, ◌||◌, List, ◌≡◌, eqb, length}
use Rattle.octets.specs.Digits.{field}
use Rattle.octets.specs.Part.{part, zeros_at}
use Rattle.octets.specs.Search.{all, least}
use Rattle.record.specs.Octets.{record_length}
use Rattle.record.specs.Sound.{is_record}

-- how many records there are, and how many octets they have
abbrev pub record_count : ℕ
record_count = 32

abbrev pub table_length : ℕ
table_length = record_count * record_length

-- the number that a free record has in the place of a pair
abbrev pub free_pair : ℕ
free_pair = 0

-- the octets of the record with a number
unfoldable pub slot : List ℕ → ℕ → List ℕ
slot l i = part l (record_length * i) record_length

-- the record with a number lies within the table and is sound
abbrev pub UsedAt : List ℕ → ℕ → Type 0
UsedAt l i = (record_length * i + record_length ≤ length l) × (is_record (slot l i) ≡ true)

-- a record is free or sound
unfoldable pub slot_sound : List ℕ → ℕ → Bool
slot_sound l i = zeros_at l (record_length * i) record_length || is_record (slot l i)

-- the number of a record's pair, or that of a free record
unfoldable pub pair_at : List ℕ → ℕ → ℕ
pair_at l i = field l (record_length * i) 1

unfoldable pub has_pair : List ℕ → ℕ → ℕ → Bool
has_pair l pair i = eqb (pair_at l i) pair

unfoldable pub lacks_pair : List ℕ → ℕ → ℕ → Bool
lacks_pair l pair i = not (has_pair l pair i)

-- no pair twice: a record is free, or none before it has its pair
unfoldable pub pair_once : List ℕ → ℕ → Bool
pair_once l i = eqb (pair_at l i) free_pair || all i (lacks_pair l (pair_at l i))

-- a sound table: right length, every record free or sound, no pair twice
unfoldable pub is_table : List ℕ → Bool
is_table l = eqb (length l) table_length && all record_count (slot_sound l) && all record_count (pair_once l)

-- the record of a pair, or one past the last where it is not open; a free record is one of the pair 0
unfoldable pub record_of : List ℕ → ℕ → ℕ
record_of l pair = least record_count (has_pair l pair)
