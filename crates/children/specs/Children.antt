-- A child association in octets: its SPI and its session.
use Rattle.std.specs.Prelude.{ℕ, ◌+◌, ◌-◌, ◌*◌, Bool, not, ◌&&◌, List, ◌++◌, leb, eqb}
use Rattle.octets.specs.Digits.{be, field}
use Rattle.octets.specs.Part.{padded, zeros_at}
use Rattle.octets.specs.Row.{joined, row}
use Rattle.octets.specs.Search.{any_of, distinct}
use Rattle.children.specs.declared.Child.{Child}

-- the octets of a child, how many children a line has at most, and the room for them
abbrev pub child_length : ℕ
child_length = 5

abbrev pub most_children : ℕ
most_children = 8

abbrev pub children_room : ℕ
children_room = most_children * child_length

unfoldable pub child_octets : Child → List ℕ
child_octets c = be 4 c.spi ++ be 1 c.session

unfoldable pub children_octets : List Child → List ℕ
children_octets cs = padded children_room (joined child_octets cs)

-- the child at a place
unfoldable pub child_from : List ℕ → ℕ → Child
child_from l at = record { spi = field l at 4; session = field l (at + 4) 1 }

-- the child with a number among those that begin at a place
unfoldable pub child_in : List ℕ → ℕ → ℕ → Child
child_in l at i = child_from l (at + child_length * i)

unfoldable pub children_from : List ℕ → ℕ → ℕ → List Child
children_from l at n = row (child_in l at) 0 n

-- so many children at most, and zeros in the places behind them
unfoldable pub children_written : List ℕ → ℕ → ℕ → Bool
children_written l at n = leb n most_children && zeros_at l (at + child_length * n) (children_room - child_length * n)

-- an SPI stands on a line
unfoldable pub is_spi : ℕ → Child → Bool
is_spi spi c = eqb spi c.spi

unfoldable pub has_spi : ℕ → List Child → Bool
has_spi spi cs = any_of (is_spi spi) cs

-- a child of another SPI
unfoldable pub is_other : ℕ → Child → Bool
is_other spi c = not (is_spi spi c)

-- children with different SPIs
unfoldable pub same_spi : Child → Child → Bool
same_spi c d = is_spi c.spi d

unfoldable pub spis_differ : List Child → Bool
spis_differ cs = distinct same_spi cs

-- an SPI from 256, a session from 1 to 15
abbrev pub least_spi : ℕ
least_spi = 256

abbrev pub most_session : ℕ
most_session = 15

unfoldable pub child_fits : Child → Bool
child_fits c = leb least_spi c.spi && leb 1 c.session && leb c.session most_session
