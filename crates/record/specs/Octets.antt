-- A record in octets: the pair's number from 1 on, the time (4 octets), the phase, the counts of holds and of children, room for holds and
-- room for children. A free record has zeros throughout.
use Rattle.std.specs.Prelude.{ℕ, ◌+◌, List, ◌++◌, length}
use Rattle.octets.specs.Digits.{be, field}
use Rattle.phase.specs.Phase.{phase_from, phase_length, phase_octets}
use Rattle.holds.specs.Holds.{holds_from, holds_octets, holds_room}
use Rattle.children.specs.Children.{children_from, children_octets, children_room}
use Rattle.record.specs.Line.{Line}

-- where the parts of a record stand, and how many octets it has
abbrev pub time_place : ℕ
time_place = 1

abbrev pub phase_place : ℕ
phase_place = time_place + 4

abbrev pub hold_count_place : ℕ
hold_count_place = phase_place + phase_length

abbrev pub child_count_place : ℕ
child_count_place = hold_count_place + 1

abbrev pub holds_place : ℕ
holds_place = child_count_place + 1

abbrev pub children_place : ℕ
children_place = holds_place + holds_room

abbrev pub record_length : ℕ
record_length = children_place + children_room

unfoldable pub record_octets : ℕ → Line → List ℕ
record_octets pair x =
    be 1 pair ++ be 4 x.time ++ phase_octets x.phase ++ be 1 (length x.holds) ++ be 1 (length x.children)
    ++ holds_octets x.holds ++ children_octets x.children

-- the line in a record's octets
unfoldable pub line_from : List ℕ → Line
line_from l = record {
  time = field l time_place 4;
  phase = phase_from l phase_place;
  holds = holds_from l holds_place (field l hold_count_place 1);
  children = children_from l children_place (field l child_count_place 1);
}
