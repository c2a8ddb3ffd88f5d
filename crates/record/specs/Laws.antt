-- Writing and reading records undo each other; the function `laws` promises it.
use Rattle.std.specs.Prelude.{ℕ, ◌^◌, ◌≤◌, ◌<◌, Bool, true, ◌&&◌, List, ◌≡◌, ltb, length}
use Rattle.octets.specs.Digits.{field}
use Rattle.octets.specs.Laws.{below}
use Rattle.octets.specs.Search.{all_of}
use Rattle.address.specs.Address.{most_holds}
use Rattle.children.specs.Children.{most_children}
use Rattle.children.specs.Laws.{child_storable}
use Rattle.holds.specs.Laws.{hold_storable}
use Rattle.phase.specs.Laws.{phase_storable}
use Rattle.record.specs.Line.{Line}
use Rattle.record.specs.Octets.{line_from, record_length, record_octets}
use Rattle.record.specs.Sound.{is_record, line_sound, most_pairs}

-- a line whose parts fit their octets
unfoldable pub line_storable : Line → Bool
line_storable x = ltb x.time (256 ^ 4) && phase_storable x.phase && all_of hold_storable x.holds && all_of child_storable x.children

pub record Laws : Type 0 where
  -- every record has the same count of octets
  pub octet_count : (pair : ℕ) (x : Line) → length x.holds ≤ most_holds → length x.children ≤ most_children → length (record_octets pair x) ≡ record_length
  -- the number of the pair is read back from a record's octets
  pub pair_back : (pair : ℕ) (x : Line) → pair < 256 → field (record_octets pair x) 0 1 ≡ pair
  -- a sound line whose parts fit their octets is read back from a record's octets
  pub read_back : (pair : ℕ) (x : Line) → line_sound x ≡ true → line_storable x ≡ true → line_from (record_octets pair x) ≡ x
  -- a sound line of one of the 64 pairs is written as a sound record
  pub sound_back : (pair : ℕ) (x : Line) → 1 ≤ pair → pair ≤ most_pairs → line_sound x ≡ true → line_storable x ≡ true → is_record (record_octets pair x) ≡ true
  -- a sound record is written back as the octets that it was read from
  pub write_back : (l : List ℕ) → all_of (below 256) l ≡ true → length l ≡ record_length → is_record l ≡ true → record_octets (field l 0 1) (line_from l) ≡ l
  -- the parts of a line that is read from a sound record fit their octets
  pub storable : (l : List ℕ) → all_of (below 256) l ≡ true → length l ≡ record_length → is_record l ≡ true → line_storable (line_from l) ≡ true
  -- a record is written in octets
  pub octets : (pair : ℕ) (x : Line) → all_of (below 256) (record_octets pair x) ≡ true
