-- Writing and reading children undo each other; the function `laws` promises it.
use Rattle.std.specs.Prelude.{ℕ, ◌+◌, ◌*◌, ◌^◌, ◌≤◌, Bool, true, ◌&&◌, List, ◌≡◌, ltb, length}
use Rattle.octets.specs.Laws.{below}
use Rattle.octets.specs.Part.{part}
use Rattle.octets.specs.Search.{all_of}
use Rattle.children.specs.Children.{child_length, children_from, children_octets, children_room, children_written, most_children}
use Rattle.children.specs.declared.Child.{Child}

-- a child whose SPI and session fit their octets
unfoldable pub child_storable : Child → Bool
child_storable c = ltb c.spi (256 ^ 4) && ltb c.session 256

pub record Laws : Type 0 where
  -- so many children have their room with the zeros behind them
  pub octet_count : (cs : List Child) → length cs ≤ most_children → length (children_octets cs) ≡ children_room
  -- so many children in range are read back from their octets
  pub read_back : (l : List ℕ) (at : ℕ) (cs : List Child) → length cs ≤ most_children → all_of child_storable cs ≡ true → part l at children_room ≡ children_octets cs
      → (children_from l at (length cs) ≡ cs) × (children_written l at (length cs) ≡ true)
  -- children are written back as the octets that they were read from
  pub write_back : (l : List ℕ) (at n : ℕ) → all_of (below 256) l ≡ true → at + children_room ≤ length l → children_written l at n ≡ true
      → part l at children_room ≡ children_octets (children_from l at n)
  -- children that are read from octets are in range
  pub storable : (l : List ℕ) (at n : ℕ) → all_of (below 256) l ≡ true → at + child_length * n ≤ length l → all_of child_storable (children_from l at n) ≡ true
