-- One element more behind the others in a record, and one more in its count.
use Rattle.std.specs.Prelude.{Option, None, Some}
use Prim.Native.Nat.{ℕ, ◌+◌, ◌-◌, ◌*◌, ◌≤◌, ◌<◌}
use mathlib.Core.Bool.{true, false}
use mathlib.Core.List.{List, [], ◌∷◌, ◌++◌, append_assoc, append-nil}
use mathlib.Core.Path.{◌≡◌, refl, sym, ap, ap₂, ◌∙◌}
use native.Mathlib.Omega.{arith}
use lib.Dec.{leb}
use lib.ListN.{length, length-append}
use lib.Seq.{sets}
use borrow.Author.Tests.{leb-true, ne_eqb}
use Rattle.octets.specs.Digits.{be, digits, field}
use Rattle.octets.specs.Part.{padded, zeros, Wrote}
use Rattle.octets.specs.Row.{joined}
use Rattle.octets.proofs.Parts.{both, padded_length}
use Rattle.octets.proofs.Patches.{end_sets, front_sets, padded_end}
use Rattle.octets.proofs.Rows.{joined_append, length_joined}
use Rattle.octets.proofs.Search.{lower, or_other}
use Rattle.octets.proofs.Sublists.{only_length}
use Rattle.address.specs.declared.Address.{Address}
use Rattle.address.specs.declared.End.{End}
use Rattle.address.specs.declared.Hold.{Hold}
use Rattle.addresses.specs.Addresses.{address_from}
use Rattle.children.specs.Children.{child_octets, children_octets}
use Rattle.children.specs.declared.Child.{Child}
use Rattle.children.proofs.Widths.{child_wide}
use Rattle.holds.specs.Holds.{ends_after, hold_octets, holds_octets}
use Rattle.holds.proofs.RoundTrip as Holds
use Rattle.holds.proofs.Widths.{hold_wide}
use Rattle.phase.specs.Chosen.{chosen}
use Rattle.phase.specs.Phase.{phase_from, phase_octets}
use Rattle.phase.specs.Stage.{is_in, stage_number, stage_of}
use Rattle.phase.specs.Stage as Stage
use Rattle.phase.specs.Standing.{restored}
use Rattle.phase.specs.declared.Phase.TheVariants.{Idle}
use Rattle.phase.specs.declared.Standing.{Standing}
use Rattle.phase.proofs.Stood.{chosen_at, none_at, stage_at}
use Rattle.record.specs.Changes.{Changes, Goes, current, held_for, hold_until, in_force, in_phase, with_children, with_holds}
use Rattle.record.specs.Octets.{child_count_place, children_place, hold_count_place, holds_place, line_from, phase_place, record_octets, time_place}
use Rattle.record.specs.Sound.{is_record}
use Rattle.record.proofs.Keeping.{few_kept}
use Rattle.record.proofs.RoundTrip.{child_count_back, few_children, hold_count_back}
use Rattle.record.proofs.Sounds.{counted_children, parts, sound_line, sound_phase}
use Rattle.record.proofs.Writing.{at_time, first_count, head, head_changed, head_length}
use Rattle.std.proofs.lemmas.Option.{none-some, same_Some}

-- elements of w octets in a room of m, and one more
module _ {A : Type 0} (g : A → List ℕ) (w : ℕ) (wide : (x : A) → length (g x) ≡ w) (m : ℕ) (xs : List A) (x : A) (room : w * length xs + w ≤ m) where
  abbrev before : List ℕ
  before = joined g xs

  abbrev after : List ℕ
  after = joined g (xs ++ x ∷ [])

  before_size : length before ≡ w * length xs
  before_size = length_joined g w wide xs

  after_is : after ≡ before ++ g x
  unfolding joined
  after_is = joined_append g xs (x ∷ []) ∙ ap (λ (r : List ℕ). before ++ r) (append-nil (g x))

  after_size : length after ≡ w * length xs + w
  after_size = ap length after_is ∙ both before (g x) (w * length xs) w before_size (wide x)

  -- it is written behind them
  behind : (a : List ℕ) (at : ℕ) → length a ≡ at → sets (a ++ padded m before) (at + w * length xs) (g x) ≡ a ++ padded m after
  unfolding padded
  behind a at size =
      let k = m - w * length xs in
      let left : k - length (g x) ≡ m - length after = omega (arith, wide x, after_size) in
      ap (λ (l : List ℕ). sets l (at + w * length xs) (g x)) (ap (λ (n : ℕ). a ++ (before ++ zeros (m - n))) before_size ∙ sym (append_assoc a before (zeros k)))
      ∙ padded_end (a ++ before) k (at + w * length xs) (g x) (both a before at (w * length xs) size before_size) (omega (arith, wide x))
      ∙ append_assoc a before (g x ++ zeros (k - length (g x)))
      ∙ ap (λ (l : List ℕ). a ++ l)
      (sym (append_assoc before (g x) (zeros (k - length (g x)))) ∙ ap₂ (λ (l : List ℕ) (n : ℕ). l ++ zeros n) (sym after_is) left)

  -- a count before them is written too, with octets between the count and them and octets behind them
  module _ (a b mid tail : List ℕ) (at k n : ℕ) (size : length a ≡ at) (one : length b ≡ 1) (between : length mid ≡ k) where
    pub one_more : sets (sets (a ++ b ++ mid ++ padded m before ++ tail) (at + 1 + k + w * length xs) (g x)) at (be 1 n) ≡ a ++ be 1 n ++ mid ++ padded m after ++ tail
    unfolding be digits
    one_more =
        let first_ends : length (a ++ b) ≡ at + 1 = both a b at 1 size one in
        let start = a ++ b ++ mid in
        let start_ends : length start ≡ at + 1 + k = both (a ++ b) mid (at + 1) k first_ends between in
        let full : length (start ++ padded m before) ≡ at + 1 + k + m = both start (padded m before) (at + 1 + k) m start_ends (padded_length m before (omega (arith, before_size))) in
        let full_after : length (start ++ padded m after) ≡ at + 1 + k + m = both start (padded m after) (at + 1 + k) m start_ends (padded_length m after (omega (arith, after_size))) in
        ap (λ (l : List ℕ). sets l at (be 1 n))
        (front_sets (start ++ padded m before) tail (at + 1 + k + w * length xs) (g x) (omega (arith, full, wide x))
        ∙ ap (λ (l : List ℕ). l ++ tail) (behind start (at + 1 + k) start_ends))
        ∙ front_sets (start ++ padded m after) tail at (be 1 n) (omega (arith, full_after))
        ∙ ap (λ (l : List ℕ). l ++ tail)
        (front_sets start (padded m after) at (be 1 n) (omega (arith, start_ends))
        ∙ ap (λ (l : List ℕ). l ++ padded m after)
        (front_sets (a ++ b) mid at (be 1 n) (omega (arith, first_ends)) ∙ ap (λ (l : List ℕ). l ++ mid) (end_sets a b at (be 1 n) size one)))

-- the count of one element more
counted_more : {A : Type 0} (xs : List A) (x : A) {n : ℕ} → n ≡ length xs → n + 1 ≡ length (xs ++ x ∷ [])
counted_more xs x e = ap (λ (k : ℕ). k + 1) e ∙ sym (length-append xs (x ∷ []))

module _ {l l₁ l₂ : List ℕ} {n : ℕ} where
  -- a child behind the others
  pub child_added : (c : Child) → n ≡ field l child_count_place 1 → n < 8 → Wrote l (children_place + 5 * n) (child_octets c) l₁ → Wrote l₁ child_count_place (be 1 (n + 1)) l₂
      → Changes l l₂ (λ x. with_children x (x.children ++ c ∷ []))
  unfolding record_octets with_children children_octets be digits
  child_added c read room w₁ w₂ pair x few_holds few_children is =
      let cs = x.children in
      let count : n ≡ length cs = read ∙ ap (λ (k : List ℕ). field k child_count_place 1) is ∙ child_count_back pair x few_children in
      let first = head pair x.time x.phase ++ be 1 (length x.holds) in
      w₂.wrote
      ∙ ap₂ (λ (k : List ℕ) (i : ℕ). sets k child_count_place (be 1 i)) (w₁.wrote ∙ ap₂ (λ (k : List ℕ) (i : ℕ). sets k (children_place + 5 * i) (child_octets c)) (is ∙ sym (append-nil (record_octets pair x))) count) (counted_more cs c count)
      ∙ one_more child_octets 5 child_wide 40 cs c (omega arith) first (be 1 (length cs)) (holds_octets x.holds) [] 26 176 (length (cs ++ c ∷ []))
      (first_count pair x.time x.phase x.holds) refl (Holds.octet_count x.holds few_holds)
      ∙ append-nil (record_octets pair (with_children x (cs ++ c ∷ [])))

  -- a hold behind the others
  pub hold_added_lem : (h : Hold) → n ≡ field l hold_count_place 1 → n < 8 → Wrote l (holds_place + 22 * n) (hold_octets h) l₁ → Wrote l₁ hold_count_place (be 1 (n + 1)) l₂
      → Changes l l₂ (λ x. with_holds x (x.holds ++ h ∷ []))
  unfolding record_octets with_holds holds_octets be digits
  hold_added_lem h read room w₁ w₂ pair x few_holds few_children is =
      let hs = x.holds in
      let counted : n ≡ length hs = read ∙ ap (λ (k : List ℕ). field k hold_count_place 1) is ∙ hold_count_back pair x few_holds in
      w₂.wrote
      ∙ ap₂ (λ (k : List ℕ) (i : ℕ). sets k hold_count_place (be 1 i)) (w₁.wrote ∙ ap₂ (λ (k : List ℕ) (i : ℕ). sets k (holds_place + 22 * i) (hold_octets h)) is counted) (counted_more hs h counted)
      ∙ one_more hold_octets 22 hold_wide 176 hs h (omega arith) (head pair x.time x.phase) (be 1 (length hs)) (be 1 (length x.children)) (children_octets x.children) 25 1 (length (hs ++ h ∷ []))
      (head_length pair x.time x.phase) refl refl

-- no hold more
pub none_added : {l : List ℕ} → Changes l l (λ x. with_holds x (x.holds ++ []))
unfolding with_holds
none_added pair x few_holds _ is = is ∙ ap (λ (hs : List Hold). record_octets pair (with_holds x hs)) (sym (append-nil x.holds))

-- one hold at most
one_hold : (a : Address) (o : Option End) → length (hold_until a o) ≤ 1
one_hold a None = omega arith
one_hold a (Some e) = omega arith

-- a child behind the others of a line that goes on to another phase
pub child_kept : (l : List ℕ) (t : ℕ) (c : Child) {k m : List ℕ} {s : Standing} → is_record l ≡ true → field l child_count_place 1 < 8 → Goes l t s k (λ x. x)
    → (field k child_count_place 1 < 8 → Changes k m (λ x. with_children x (x.children ++ c ∷ []))) → Goes l t s m (λ x. with_children x (x.children ++ c ∷ []))
unfolding in_phase current line_from
child_kept l t c {k} sound room goes add q continues stands =
    let y = in_phase (current t (line_from l)) (restored (line_from l).phase q) in
    let few = few_children (line_from l) (sound_line l sound) in
    let here : k ≡ record_octets (field l 0 1) y = goes q continues stands in
    let count : field k child_count_place 1 ≡ field l child_count_place 1 = ap (λ (r : List ℕ). field r child_count_place 1) here ∙ child_count_back (field l 0 1) y few ∙ counted_children l in
    add (omega (arith, count)) (field l 0 1) y (few_kept l sound t) few here

-- a sound record whose line has a chosen address
module _ (l : List ℕ) (sound : is_record l ≡ true) (a : Address) (is : chosen (line_from l).phase ≡ Some a) where
  late : 3 ≤ field l phase_place 1
  unfolding line_from
  late = lower (field l phase_place 1) 3 (λ early. absurd (none-some a (sym (none_at l phase_place early) ∙ is))) (λ h. h)

  -- it stands in the phase
  address_is : address_from l (phase_place + 1) ≡ a
  unfolding line_from
  address_is = same_Some (address_from l (phase_place + 1)) a (sym (chosen_at l phase_place (sound_phase l sound) late).0 ∙ is)

  -- there is room for one hold more
  room_left : length (line_from l).holds ≤ 7
  unfolding line_from is_in
  room_left =
      let p = phase_from l phase_place in
      let n = length (line_from l).holds in
      let busy : is_in Stage.idle p ≡ false = ne_eqb (stage_number (stage_of p)) 0 (λ e. omega (arith, late, stage_at l phase_place (sound_phase l sound), e)) in
      leb-true n 7 (or_other (is_in Stage.idle p) (leb n 7) (parts l sound).room busy)

  -- the line is idle, and the address is held behind the holds in force where there is an end
  pub hold_kept : {k k₂ m : List ℕ} {b : Address} (t : ℕ) (o : Option End) → b ≡ address_from l (phase_place + 1) → k ≡ record_octets (field l 0 1) (in_force t (line_from l))
      → (field k hold_count_place 1 < 8 → Changes k k₂ (λ x. with_holds x (x.holds ++ hold_until b o))) → Wrote k₂ time_place (be 4 t ++ phase_octets Idle) m
      → m ≡ record_octets (field l 0 1) (held_for t a o (line_from l))
  unfolding in_force with_holds held_for in_phase current at_time
  hold_kept {k} {k₂} {m} {b} t o read here add w =
      let x = line_from l in
      let pair = field l 0 1 in
      let y = in_force t x in
      let one : List Hold = hold_until b o in
      let kept : length y.holds ≤ length x.holds = only_length (ends_after t) x.holds in
      let counted : field k hold_count_place 1 ≡ length y.holds = ap (λ (r : List ℕ). field r hold_count_place 1) here ∙ hold_count_back pair y (omega (arith, kept, room_left)) in
      let added : k₂ ≡ record_octets pair (with_holds y (y.holds ++ one)) =
      add (omega (arith, counted, kept, room_left)) pair y (omega (arith, kept, room_left)) (few_children x (sound_line l sound)) here in
      let size : length (y.holds ++ one) ≡ length y.holds + length one = length-append y.holds one in
      w.wrote ∙ ap (λ (r : List ℕ). sets r time_place (be 4 t ++ phase_octets Idle)) added
      ∙ head_changed pair (with_holds y (y.holds ++ one)) t Idle (omega (arith, size, one_hold b o, kept, room_left))
      ∙ ap (λ (d : Address). record_octets pair (held_for t d o x)) (read ∙ address_is)
