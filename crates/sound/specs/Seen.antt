-- What the walk over a table's records keeps: a flag for each pair that a record passed has.
use Rattle.std.specs.Prelude.{ℕ, ◌+◌, ◌≤◌, Bool, true, false, not, ◌&&◌, List, ◌≡◌, length, get_or}
use Rattle.octets.specs.Search.{all}
use Rattle.record.specs.Sound.{most_pairs}
use Rattle.table.specs.Table.{lacks_pair, pair_once, slot_sound}

-- which pairs the first i records have; the flag of the number of a free record says nothing
pub record Seen (l : List ℕ) (i : ℕ) (seen : List Bool) : Type 0 where
  pub sized : length seen ≡ most_pairs + 1
  pub flag : (p : ℕ) → 1 ≤ p → p ≤ most_pairs → get_or seen p false ≡ not (all i (lacks_pair l p))

-- what the code's answer says of the record with a number, and the flags that it leaves
pub record Passes (l : List ℕ) (i : ℕ) (r : Bool) (seen : List Bool) : Type 0 where
  pub tells : r ≡ slot_sound l i && pair_once l i
  pub flags : r ≡ true → Seen l (i + 1) seen
