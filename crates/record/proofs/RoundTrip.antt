-- Writing and reading records undo each other.
use Prim.Native.Nat.{ℕ, ◌^◌, ◌≤◌, ◌<◌}
use mathlib.Core.Bool.{Bool, true, ◌&&◌, ◌||◌}
use mathlib.Core.List.{List, [], ◌++◌, map}
use mathlib.Core.Path.{◌≡◌, refl, sym, ap, ◌∙◌}
use native.Mathlib.Omega.{arith}
use lib.Dec.{leb, ltb}
use lib.ListN.{length}
use borrow.Author.Tests.{leb-true, ltb-true, le-leb, lt-ltb}
use Rattle.octets.specs.Digits.{be, digits, field}
use Rattle.octets.specs.Laws.{below}
use Rattle.octets.specs.Part.{part}
use Rattle.octets.specs.Search.{all_of}
use Rattle.octets.proofs.Fields.{field_below, follow, number_back, part_whole}
use Rattle.octets.proofs.Octets.{Octets, joins, be_octets}
use Rattle.octets.proofs.Rows.{length_row}
use Rattle.octets.proofs.Search.{and_left, and_right}
use Rattle.octets.proofs.Stands.{Stands, before, behind, says, to_part, whole}
use Rattle.address.specs.Address.{address_in}
use Rattle.children.specs.Children.{child_fits, child_in, children_from, children_octets, children_written, spis_differ}
use Rattle.children.specs.Laws.{child_storable}
use Rattle.children.proofs.RoundTrip as Children
use Rattle.holds.specs.Holds.{different, ends_after, hold_in, holds_from, holds_octets, holds_written, holds_room}
use Rattle.holds.specs.Laws.{hold_storable}
use Rattle.holds.proofs.RoundTrip as Holds
use Rattle.phase.specs.Chosen.{chosen}
use Rattle.phase.specs.Laws.{phase_storable}
use Rattle.phase.specs.Phase.{phase_fits, phase_from, phase_octets, phase_written}
use Rattle.phase.proofs.Reading as Reading
use Rattle.phase.proofs.Writes as Writes
use Rattle.phase.proofs.Writing as Writing
use Rattle.phase.specs.Stage.{is_in}
use Rattle.phase.specs.Stage as Stage
use Rattle.record.specs.Laws.{line_storable}
use Rattle.record.specs.Line.{Line}
use Rattle.record.specs.Octets.{line_from, record_octets, record_length, children_place}
use Rattle.record.specs.Sound.{children_sound, holds_sound, in_range, chosen_free, is_record, line_sound, line_written}
use Rattle.record.proofs.Lines.{line_read}
use Rattle.record.proofs.Sounds.{child_octet, hold_octet, record_line}
use Rattle.record.proofs.Writing.{counted, counted_length, first_count, head, head_length, held_length}

-- what the soundness of a line says of its parts
module _ (x : Line) (sound : line_sound x ≡ true) where
  abbrev before_holds : Bool
  before_holds = in_range x.phase x.children && children_sound x.phase x.children

  abbrev by_holds : Bool
  by_holds = holds_sound x.time x.phase x.holds

  sound_front : before_holds ≡ true
  unfolding line_sound
  sound_front = and_left before_holds by_holds sound

  pub phase_fits_lem : phase_fits x.phase ≡ true
  unfolding in_range
  phase_fits_lem =
      and_left (phase_fits x.phase) (all_of child_fits x.children) (and_left (in_range x.phase x.children) (children_sound x.phase x.children) sound_front)

  pub few_children : length x.children ≤ 8
  unfolding children_sound
  few_children =
      let few = leb (length x.children) 8 in
      let there = is_in Stage.live x.phase || leb (length x.children) 0 in
      leb-true (length x.children) 8 (and_left few there (and_left (few && there) (spis_differ x.children) (and_right (in_range x.phase x.children) (children_sound x.phase x.children) sound_front)))

  pub few_holds : length x.holds ≤ 8
  unfolding line_sound holds_sound
  few_holds =
      let few = leb (length x.holds) 8 in
      let room = is_in Stage.idle x.phase || leb (length x.holds) 7 in
      let once = different (map address_in x.holds) in
      let free = chosen_free (chosen x.phase) (map address_in x.holds) in
      let late = all_of (ends_after x.time) x.holds in
      leb-true (length x.holds) 8 (and_left few room (and_left (few && room) once (and_left (few && room && once) free (and_left (few && room && once && free) late (and_right before_holds by_holds sound)))))

-- where the parts of a line stand in its record
module _ (pair : ℕ) (x : Line) where
  abbrev l : List ℕ
  l = record_octets pair x

  -- the octets of its time, of its head, and of the counts of its holds and of its children
  abbrev T : List ℕ
  T = be 4 x.time

  abbrev H : List ℕ
  H = head pair x.time x.phase

  abbrev M : List ℕ
  M = be 1 (length x.holds)

  abbrev N : List ℕ
  N = be 1 (length x.children)

  up_to_holds : Stands l 0 (H ++ M ++ N ++ holds_octets x.holds) (children_octets x.children ++ [])
  unfolding record_octets
  up_to_holds = before (H ++ M ++ N ++ holds_octets x.holds) (children_octets x.children) (whole l)

  up_to_counts : Stands l 0 (H ++ M ++ N) (holds_octets x.holds ++ (children_octets x.children ++ []))
  up_to_counts = before (H ++ M ++ N) (holds_octets x.holds) up_to_holds

  up_to_phase : Stands l 0 H (M ++ (N ++ (holds_octets x.holds ++ (children_octets x.children ++ []))))
  up_to_phase = before H M (before (H ++ M) N up_to_counts)

  up_to_time : Stands l 0 (be 1 pair ++ T) (phase_octets x.phase ++ (M ++ (N ++ (holds_octets x.holds ++ (children_octets x.children ++ [])))))
  up_to_time = before (be 1 pair ++ T) (phase_octets x.phase) up_to_phase

  pub pair_back : pair < 256 → field l 0 1 ≡ pair
  pair_back h = says 1 pair (omega arith) (before (be 1 pair) T up_to_time)

  time_back : x.time < 256 ^ 4 → field l 1 4 ≡ x.time
  unfolding be digits
  time_back h = says 4 x.time h (behind (be 1 pair) T 1 refl up_to_time)

  pub phase_part : part l 5 20 ≡ phase_octets x.phase
  unfolding be digits
  phase_part = to_part (phase_octets x.phase) 20 (Writes.phase_length_lem x.phase) (behind (be 1 pair ++ T) (phase_octets x.phase) 5 refl up_to_phase)

  pub hold_count_back : length x.holds ≤ 8 → field l 25 1 ≡ length x.holds
  hold_count_back few = says 1 (length x.holds) (omega arith) (behind H M 25 (head_length pair x.time x.phase) (before (H ++ M) N up_to_counts))

  pub child_count_back : length x.children ≤ 8 → field l 26 1 ≡ length x.children
  child_count_back few = says 1 (length x.children) (omega arith) (behind (H ++ M) N 26 (first_count pair x.time x.phase x.holds) up_to_counts)

  holds_part : length x.holds ≤ 8 → part l 27 holds_room ≡ holds_octets x.holds
  holds_part few =
      to_part (holds_octets x.holds) holds_room (Holds.octet_count x.holds few)
      (behind (H ++ M ++ N) (holds_octets x.holds) 27 (counted_length pair x.time x.phase x.holds x.children) up_to_holds)

  children_part : length x.holds ≤ 8 → length x.children ≤ 8 → part l children_place 40 ≡ children_octets x.children
  unfolding record_octets
  children_part few_h few_c =
      to_part (children_octets x.children) 40 (Children.octet_count x.children few_c)
      (behind (H ++ M ++ N ++ holds_octets x.holds) (children_octets x.children) children_place (held_length pair x.time x.phase x.holds x.children few_h) (whole l))

  -- a sound line whose parts fit their octets
  module _ (sound : line_sound x ≡ true) (fits : line_storable x ≡ true) where
    abbrev small : Bool
    small = ltb x.time (256 ^ 4)

    abbrev lists : Bool
    lists = small && phase_storable x.phase && all_of hold_storable x.holds

    lists_storable : lists ≡ true
    unfolding line_storable
    lists_storable = and_left lists (all_of child_storable x.children) fits

    start_storable : small && phase_storable x.phase ≡ true
    start_storable = and_left (small && phase_storable x.phase) (all_of hold_storable x.holds) lists_storable

    phase_back : (phase_from l 5 ≡ x.phase) × (phase_written l 5 ≡ true)
    phase_back = Reading.read_back l 5 x.phase (phase_fits_lem x sound) (and_right small (phase_storable x.phase) start_storable) phase_part

    holds_back : (holds_from l 27 (length x.holds) ≡ x.holds) × (holds_written l 27 (length x.holds) ≡ true)
    holds_back =
        let few = few_holds x sound in
        Holds.read_back l 27 x.holds few (and_right (small && phase_storable x.phase) (all_of hold_storable x.holds) lists_storable) (holds_part few)

    children_back : (children_from l children_place (length x.children) ≡ x.children) × (children_written l children_place (length x.children) ≡ true)
    unfolding line_storable
    children_back =
        let few = few_children x sound in
        Children.read_back l children_place x.children few (and_right lists (all_of child_storable x.children) fits) (children_part (few_holds x sound) few)

    line_back : line_from l ≡ x
    line_back =
        let time = time_back (ltb-true x.time (256 ^ 4) (and_left small (phase_storable x.phase) start_storable)) in
        sym (line_read l (sym time) (sym phase_back.0) (sym (hold_count_back (few_holds x sound))) (sym (child_count_back (few_children x sound))) (sym holds_back.0) (sym children_back.0))

    line_written_lem : line_written l ≡ true
    unfolding line_written
    line_written_lem =
        rw (phase_back.1, hold_count_back (few_holds x sound), child_count_back (few_children x sound), holds_back.1, children_back.1)

    record_back : 1 ≤ pair → pair ≤ 64 → is_record l ≡ true
    unfolding is_record
    record_back low high = rw (pair_back (omega arith), le-leb 1 pair low, le-leb pair 64 high, line_written_lem, line_back) sound

pub read_back : (pair : ℕ) (x : Line) → line_sound x ≡ true → line_storable x ≡ true → line_from (record_octets pair x) ≡ x
read_back pair x sound fits = line_back pair x sound fits

pub sound_back : (pair : ℕ) (x : Line) → 1 ≤ pair → pair ≤ 64 → line_sound x ≡ true → line_storable x ≡ true → is_record (record_octets pair x) ≡ true
sound_back pair x low high sound fits = record_back pair x sound fits low high

-- the octets of a sound record
module _ (m : List ℕ) (octets : all_of (below 256) m ≡ true) (size : length m ≡ record_length) (sound : is_record m ≡ true) where
  holds_number : length (holds_from m 27 (field m 25 1)) ≡ field m 25 1
  unfolding holds_from
  holds_number = length_row (hold_in m 27) 0 (field m 25 1)

  children_number : length (children_from m children_place (field m 26 1)) ≡ field m 26 1
  unfolding children_from
  children_number = length_row (child_in m children_place) 0 (field m 26 1)

  -- the octets of the phase, of the holds and of the children are as they are written
  abbrev P : Bool
  P = phase_written m 5

  abbrev Q : Bool
  Q = holds_written m 27 (field m 25 1)

  abbrev R : Bool
  R = children_written m children_place (field m 26 1)

  parts_written : P && Q && R ≡ true
  unfolding line_written
  parts_written = record_line m sound

  head_octets : head (field m 0 1) (field m 1 4) (phase_from m 5) ≡ part m 0 25
  head_octets =
      follow m 0 5 20 (follow m 0 1 4 (number_back m octets 0 1 (field m 0 1) (omega arith) refl) (number_back m octets 1 4 (field m 1 4) (omega arith) refl))
      (sym (Writing.write_back m 5 octets (omega arith) (and_left P Q (and_left (P && Q) R parts_written))))

  counted_octets : counted (field m 0 1) (field m 1 4) (phase_from m 5) (holds_from m 27 (field m 25 1)) (children_from m children_place (field m 26 1)) ≡ part m 0 27
  counted_octets =
      follow m 0 26 1 (follow m 0 25 1 head_octets (number_back m octets 25 1 _ (omega arith) (sym holds_number)))
      (number_back m octets 26 1 _ (omega arith) (sym children_number))

  pub write_back : record_octets (field m 0 1) (line_from m) ≡ m
  unfolding record_octets line_from
  write_back =
      follow m 0 children_place 40 (follow m 0 27 holds_room counted_octets (sym (Holds.write_back m 27 (field m 25 1) octets (omega arith) (and_right P Q (and_left (P && Q) R parts_written)))))
      (sym (Children.write_back m children_place (field m 26 1) octets (omega arith) (and_right (P && Q) R parts_written)))
      ∙ ap (part m 0) (sym size) ∙ part_whole m

  pub storable : line_storable (line_from m) ≡ true
  unfolding line_storable line_from
  storable =
      let few_h : field m 25 1 ≤ 8 = hold_octet m sound in
      let few_c : field m 26 1 ≤ 8 = child_octet m sound in
      rw (lt-ltb (field m 1 4) (256 ^ 4) (field_below m octets 1 4 (omega arith)), Reading.storable m 5 octets (omega arith), Holds.storable m 27 (field m 25 1) octets (omega arith), Children.storable m children_place (field m 26 1) octets (omega arith))

pub octets : (pair : ℕ) (x : Line) → all_of (below 256) (record_octets pair x) ≡ true
unfolding record_octets
octets pair x =
    let head_is : Octets (head pair x.time x.phase) = joins (joins (be_octets 1 pair) (be_octets 4 x.time)) (Writes.octets x.phase) in
    (joins (joins (joins (joins head_is (be_octets 1 (length x.holds))) (be_octets 1 (length x.children))) (Holds.octets x.holds)) (Children.octets x.children)).octets
