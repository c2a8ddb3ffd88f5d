-- A sound record, part by part: what follows from it, and what it follows from.
use Prim.Native.Nat.{ℕ, ◌≤◌, ◌<◌}
use mathlib.Core.Bool.{Bool, true, false, false≢true, ◌&&◌, ◌||◌}
use mathlib.Core.List.{List}
use mathlib.Core.Path.{◌≡◌, refl, sym, ap, ◌∙◌, subst}
use native.Mathlib.Omega.{arith}
use lib.Dec.{eqb, leb, ltb}
use lib.ListN.{length}
use borrow.Author.Tests.{le-leb, leb-true, lt-leb, le-ltb, ltb-false, ltb-true, ne_eqb}
use Rattle.octets.specs.Digits.{field}
use Rattle.octets.specs.Search.{all_of}
use Rattle.octets.proofs.Rows.{length_row}
use Rattle.octets.proofs.Search.{and_last, and_left, and_right, and_true, either, or_left, or_other, or_right}
use Rattle.address.specs.declared.Hold.{Hold}
use Rattle.children.specs.Children.{child_fits, child_in, children_from, children_written, spis_differ}
use Rattle.children.specs.declared.Child.{Child}
use Rattle.holds.specs.Holds.{different, ends_after, hold_in, holds_from, holds_written}
use Rattle.phase.specs.Chosen.{chosen}
use Rattle.phase.specs.Phase.{is_phase, phase_fits, phase_from, phase_written}
use Rattle.phase.specs.Stage.{is_in}
use Rattle.phase.specs.Stage as Stage
use Rattle.phase.specs.declared.Phase.{Phase}
use Rattle.phase.proofs.Stood.{stage_at}
use Rattle.record.specs.Branch.{apart, counts_fit, held_in, Comparable}
use Rattle.record.specs.Octets.{children_place, line_from}
use Rattle.record.specs.Sound.{children_sound, chosen_free, holds_sound, in_range, is_record, line_sound, line_written}

-- no number is below 1
none_below : (n : ℕ) → leb n 0 ≡ eqb n 0
none_below n = either n 0 (λ e. rw e) (λ h. lt-leb n 0 (omega arith) ∙ sym (ne_eqb n 0 h))

-- what the tests of n children and of m holds answer
abbrev pub ChildrenAre : List ℕ → ℕ → Bool
ChildrenAre l n = children_written l children_place n && all_of child_fits (children_from l children_place n) && spis_differ (children_from l children_place n)

abbrev pub HoldsAre : List ℕ → ℕ → ℕ → Bool
HoldsAre l time m = holds_written l 27 m && all_of (ends_after time) (holds_from l 27 m)

module _ (l : List ℕ) where
  abbrev p : Phase
  p = phase_from l 5

  abbrev m : ℕ
  m = field l 25 1

  abbrev n : ℕ
  n = field l 26 1

  abbrev hs : List Hold
  hs = holds_from l 27 m

  abbrev cs : List Child
  cs = children_from l children_place n

  -- the tests of a record, one by one
  pub record Parts : Type 0 where
    pub low : leb 1 (field l 0 1) ≡ true
    pub high : leb (field l 0 1) 64 ≡ true
    pub phase_written_lem : phase_written l 5 ≡ true
    pub holds_written_lem : holds_written l 27 m ≡ true
    pub children_written_lem : children_written l children_place n ≡ true
    pub phase_fits_lem : phase_fits p ≡ true
    pub fit : all_of child_fits cs ≡ true
    pub on_live : is_in Stage.live p || leb (length cs) 0 ≡ true
    pub spis : spis_differ cs ≡ true
    pub room : is_in Stage.idle p || leb (length hs) 7 ≡ true
    pub once : different (held_in l m) ≡ true
    pub free : chosen_free (chosen p) (held_in l m) ≡ true
    pub in_force_lem : all_of (ends_after (field l 1 4)) hs ≡ true

  pub parts : is_record l ≡ true → Parts
  unfolding is_record line_written line_sound line_from in_range children_sound holds_sound
  parts e = record {
    low = search (and_left, and_right);
    high = search (and_left, and_right);
    phase_written_lem = search (and_left, and_right);
    holds_written_lem = search (and_left, and_right);
    children_written_lem = search (and_left, and_right);
    phase_fits_lem = search (and_left, and_right);
    fit = search (and_left, and_right);
    on_live = search (and_left, and_right);
    spis = search (and_left, and_right);
    room = search (and_left, and_right);
    once = search (and_left, and_right);
    free = search (and_left, and_right);
    in_force_lem = search (and_left, and_right);
  }

  -- a record whose test fails is not sound
  fails : {b : Bool} → (Parts → b ≡ true) → b ≡ false → false ≡ is_record l
  fails {b} says e = go (is_record l) refl
    where
      go : (t : Bool) → is_record l ≡ t → false ≡ t
      go true q = absurd (false≢true (sym e ∙ says (parts q)))
      go false q = refl

  -- the pair's number
  pub no_pair : (k : ℕ) → k ≡ field l 0 1 → ltb k 1 || ltb 64 k ≡ true → false ≡ is_record l
  no_pair k e out = fails {b = false} (λ s. absurd (never s)) refl
    where
      never : Parts → ⊥
      never s =
          let from : 1 ≤ k = rw (e) (leb-true 1 (field l 0 1) s.low) in
          let past : 64 < k = ltb-true 64 k (or_other (ltb k 1) (ltb 64 k) out (le-ltb k 1 from)) in
          omega (arith, leb-true (field l 0 1) 64 s.high, e)

  counted_holds : length hs ≡ m
  unfolding holds_from
  counted_holds = length_row (hold_in l 27) 0 m

  pub counted_children : length cs ≡ n
  unfolding children_from
  counted_children = length_row (child_in l children_place) 0 n

  -- the phase, and the counts that it allows
  phase_stands : Parts → is_phase l 5 ≡ true
  unfolding is_phase
  phase_stands s = and_true (phase_written l 5) (phase_fits p) s.phase_written_lem s.phase_fits_lem

  pub no_phase : is_phase l 5 ≡ false → false ≡ is_record l
  no_phase = fails phase_stands

  module _ (stage : ℕ) (read : stage ≡ field l 5 1) (stands : is_phase l 5 ≡ true) where
    counts_are : counts_fit stage m n ≡ (is_in Stage.idle p || leb (length hs) 7) && (is_in Stage.live p || leb (length cs) 0)
    unfolding counts_fit is_in
    counts_are = rw (counted_holds, counted_children, stage_at l 5 stands, none_below n, read)

    pub miscounted : counts_fit stage m n ≡ false → false ≡ is_record l
    miscounted = fails (λ s. counts_are ∙ and_true (is_in Stage.idle p || leb (length hs) 7) (is_in Stage.live p || leb (length cs) 0) s.room s.on_live)

    -- what the counts say
    pub room_is : counts_fit stage m n ≡ true → is_in Stage.idle p || leb m 7 ≡ true
    room_is e =
        ap (λ (k : ℕ). is_in Stage.idle p || leb k 7) (sym counted_holds)
        ∙ and_left (is_in Stage.idle p || leb (length hs) 7) (is_in Stage.live p || leb (length cs) 0) (sym counts_are ∙ e)

  -- the children
  pub no_children : ChildrenAre l n ≡ false → false ≡ is_record l
  no_children = fails (λ s. and_true (children_written l children_place n && all_of child_fits cs) (spis_differ cs) (and_true (children_written l children_place n) (all_of child_fits cs) s.children_written_lem s.fit) s.spis)

  -- the holds
  pub no_holds : (time : ℕ) → time ≡ field l 1 4 → HoldsAre l time m ≡ false → false ≡ is_record l
  no_holds time read = fails (λ s. and_true (holds_written l 27 m) (all_of (ends_after time) hs) s.holds_written_lem (ap (λ (k : ℕ). all_of (ends_after k) hs) read ∙ s.in_force_lem))

  few_holds : holds_written l 27 m ≡ true → m ≤ 8
  unfolding holds_written
  few_holds e = leb-true m 8 (search (and_left, and_right))

  few_children : children_written l children_place n ≡ true → n ≤ 8
  unfolding children_written
  few_children e = leb-true n 8 (search and_left)

  -- what is left once the other tests are passed
  module _ (k : ℕ) (own : k ≡ field l 0 1) (paired : ltb k 1 || ltb 64 k ≡ false) (stage : ℕ) (staged : stage ≡ field l 5 1)
      (stands : is_phase l 5 ≡ true) (counts : counts_fit stage m n ≡ true) (time : ℕ) (timed : time ≡ field l 1 4)
      (good : HoldsAre l time m ≡ true) where
    written : holds_written l 27 m ≡ true
    written = and_left (holds_written l 27 m) (all_of (ends_after time) hs) good

    comparable : Comparable l m
    unfolding holds_written
    comparable = record { phased = stands; addressed = search (and_left, and_right); few = few_holds written; room = room_is stage staged stands counts }

    by_apart : ChildrenAre l n ≡ true → apart l m ≡ is_record l
    unfolding is_record line_written line_sound line_from in_range children_sound holds_sound is_phase apart
    by_apart tunnels =
        let from : leb 1 (field l 0 1) ≡ true = rw (← own) (le-leb 1 k (ltb-false k 1 (or_left (ltb k 1) (ltb 64 k) paired))) in
        let to : leb (field l 0 1) 64 ≡ true = rw (← own) (le-leb k 64 (ltb-false 64 k (or_right (ltb k 1) (ltb 64 k) paired))) in
        let ends : all_of (ends_after (field l 1 4)) hs ≡ true = rw (← timed) (and_right (holds_written l 27 m) (all_of (ends_after time) hs) good) in
        let phase_is : phase_written l 5 ≡ true = and_left (phase_written l 5) (phase_fits p) stands in
        let phase_in : phase_fits p ≡ true = and_right (phase_written l 5) (phase_fits p) stands in
        let allowed = sym (counts_are stage staged stands) ∙ counts in
        let busy : is_in Stage.idle p || leb (length hs) 7 ≡ true = and_left (is_in Stage.idle p || leb (length hs) 7) (is_in Stage.live p || leb (length cs) 0) allowed in
        let live : is_in Stage.live p || leb (length cs) 0 ≡ true = and_right (is_in Stage.idle p || leb (length hs) 7) (is_in Stage.live p || leb (length cs) 0) allowed in
        let tunnelled : children_written l children_place n ≡ true = search (and_left, and_right) in
        let in_range_lem : all_of child_fits cs ≡ true = search (and_left, and_right) in
        let once : spis_differ cs ≡ true = search (and_left, and_right) in
        let eight_holds : leb (length hs) 8 ≡ true = ap (λ (i : ℕ). leb i 8) counted_holds ∙ le-leb m 8 (few_holds written) in
        let eight_children : leb (length cs) 8 ≡ true = ap (λ (i : ℕ). leb i 8) counted_children ∙ le-leb n 8 (few_children tunnelled) in
        sym (rw (from, to, phase_is, written, tunnelled, phase_in, in_range_lem, eight_children, live, once, eight_holds, busy, ends) (and_last (different (held_in l m) && chosen_free (chosen p) (held_in l m))))

    -- the addresses can be compared, and decide
    pub all_passed : ChildrenAre l n ≡ true → (i : ℕ) → i ≡ m → Comparable l i × (apart l i ≡ is_record l)
    all_passed tunnels i read = subst (λ (j : ℕ). Comparable l j × (apart l j ≡ is_record l)) (sym read) (comparable, by_apart tunnels)

-- what a sound record does not use is zero
pub record_line : (l : List ℕ) → is_record l ≡ true → line_written l ≡ true
unfolding line_written
record_line l e =
    let s = parts l e in
    rw (s.phase_written_lem, s.holds_written_lem) s.children_written_lem

-- its lists are within their bounds
pub hold_octet : (l : List ℕ) → is_record l ≡ true → field l 25 1 ≤ 8
hold_octet l e = few_holds l (parts l e).holds_written_lem

pub child_octet : (l : List ℕ) → is_record l ≡ true → field l 26 1 ≤ 8
child_octet l e = few_children l (parts l e).children_written_lem

-- a phase stands in it
pub sound_phase : (l : List ℕ) → is_record l ≡ true → is_phase l 5 ≡ true
sound_phase l e = phase_stands l (parts l e)

-- the line in it is sound
pub sound_line : (l : List ℕ) → is_record l ≡ true → line_sound (line_from l) ≡ true
unfolding is_record
sound_line l e = search (and_left, and_right)
