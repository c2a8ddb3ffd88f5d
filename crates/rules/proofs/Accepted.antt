-- An accepted call's act can be applied.
use Rattle.std.specs.Prelude.{Option, None, Some, is_some}
use Prim.Native.Nat.{ℕ, ◌*◌, ◌≤◌, ◌<◌}
use mathlib.Core.Bool.{Bool, true, false, not, ◌&&◌, ◌||◌, true≢false}
use mathlib.Core.List.{List}
use mathlib.Core.Path.{◌≡◌, refl, sym, ap, ◌∙◌, subst}
use native.Mathlib.Nat.{zero-add}
use native.Mathlib.Omega.{arith}
use lib.Dec.{leb, ltb, eqb}
use lib.ListN.{length}
use borrow.Author.Tests.{ltb-true, ltb-false, le-leb, eq-eqb, not-false}
use Rattle.octets.specs.Digits.{field}
use Rattle.octets.specs.Laws.{below}
use Rattle.octets.specs.Part.{same, zeros}
use Rattle.octets.specs.Refusal.{refusal}
use Rattle.octets.specs.Search.{all_of, distinct}
use Rattle.octets.proofs.Fields.{all_of_part}
use Rattle.octets.proofs.Parts.{length_part, same_equal}
use Rattle.octets.proofs.Rows.{get_d_row}
use Rattle.octets.proofs.Search.{and_right, or_left, or_right, or_true}
use Rattle.children.specs.Children.{spis_differ}
use Rattle.holds.specs.Holds.{different}
use Rattle.phase.specs.Chosen.{chosen}
use Rattle.phase.specs.Laws.{phase_storable}
use Rattle.phase.specs.Phase.{phase_fits}
use Rattle.phase.specs.Stage.{is_in}
use Rattle.record.specs.Changes.{current}
use Rattle.record.specs.Laws.{line_storable}
use Rattle.record.specs.Line.{Line}
use Rattle.record.specs.Octets.{line_from, record_length}
use Rattle.record.specs.Sound.{children_sound, holds_sound, in_range, chosen_free, is_record, line_sound, line_written}
use Rattle.record.proofs.RoundTrip as RoundTrip
use Rattle.table.specs.Laws.{may_stand, slot_fits}
use Rattle.table.specs.Slots.{Slot, Used, is_of, is_open, line_at, pair_in, slot_at, slots_of}
use Rattle.table.specs.Table.{is_table, record_of, slot, table_length}
use Rattle.table.proofs.Lookups.{open_line}
use Rattle.table.proofs.Puts.{pair_from, pair_in_lem, table_kept, table_length_lem}
use Rattle.table.proofs.Views.{found_pair, line_found_lem, open_found, zeros_pair}
use Rattle.rules.specs.Call.{Event, Call, opening, closing, listing, timed, event_octets, last_time, lent_octets, pair_of, tenant_of}
use Rattle.rules.specs.Claims.{Good, NoRow}
use Rattle.rules.specs.Histories.{is_octets}
use Rattle.rules.specs.Life.{outcome}
use Rattle.rules.specs.Refusals.{event_refusals, is_above_last, is_full, is_no_pair, is_not_open, is_open_already, refusals, refusals_of}
use Rattle.rules.specs.Run.{Act, step, step_of, timed_step}
use Rattle.rules.specs.View.{View, fresh, line_found, line_or, line_seen, own_line, view_in, view_of}
use Rattle.rules.proofs.Acts.{Ready}
use Rattle.rules.proofs.Keeps.{keeps_line}
use Rattle.rules.proofs.Refused.{event_fails, no_row}
use Rattle.rules.proofs.Rows.{none_given}

-- a line just opened is sound and fits its octets
fresh_sound : line_sound fresh ≡ true
unfolding fresh line_sound in_range phase_fits all_of children_sound is_in spis_differ distinct holds_sound different chosen_free chosen
fresh_sound = refl

fresh_storable : line_storable fresh ≡ true
unfolding fresh line_storable phase_storable all_of
fresh_storable = refl

-- tenant and line in their ranges
module _ (tenant line : ℕ) (pair_is : is_above_last tenant line ≡ false) where
  pub tenant_range : tenant ≤ 15
  unfolding is_above_last
  tenant_range = ltb-false 15 tenant (or_left (ltb 15 tenant) (ltb 3 line) pair_is)

  pub line_range : line ≤ 3
  unfolding is_above_last
  line_range = ltb-false 3 line (or_right (ltb 15 tenant) (ltb 3 line) pair_is)

  pub pair_low : 1 ≤ pair_of tenant line
  unfolding pair_of
  pair_low = omega arith

  pub pair_high : pair_of tenant line ≤ 64
  unfolding pair_of
  pair_high = omega (arith, tenant_range, line_range)

  -- a line of one of the 64 pairs fits a record
  pub used_fits : (x : Line) → line_sound x ≡ true → line_storable x ≡ true → slot_fits (Used (pair_of tenant line) x) ≡ true
  unfolding slot_fits
  used_fits x sound storable = rw (le-leb 1 (pair_of tenant line) pair_low, le-leb (pair_of tenant line) 64 pair_high, sound, storable)

  -- the call's own line is the one that is found under its pair
  pub own_is : (ss : List Slot) (b : Bool) → line_seen (view_of b tenant ss) line ≡ line_at (pair_of tenant line) ss
  unfolding line_seen view_of own_line
  own_is ss b = get_d_row (own_line tenant ss) None 0 4 line (omega (arith, line_range)) ∙ ap (own_line tenant ss) (zero-add line)

-- the line of an open pair of a sound table is sound and fits its octets
module _ (l : List ℕ) (sound : is_table l ≡ true) (pair : ℕ) (low : 1 ≤ pair) (x : Line) (e : line_at pair (slots_of l) ≡ Some x) where
  pub is_found : record_of l pair < 32
  is_found = ltb-true (record_of l pair) 32 (sym (open_found l pair) ∙ open_line pair low (slots_of l) ∙ ap is_some e)

  abbrev s : List ℕ
  s = slot l (record_of l pair)

  is_line : line_from s ≡ x
  unfolding line_or
  is_line = ap (λ (o : Option Line). line_or o) (sym (line_found_lem l pair is_found low) ∙ e)

  -- its record is a sound one
  pub used_record : is_record s ≡ true
  unfolding slot_at
  used_record = go (same s (zeros record_length)) refl (table_kept l sound (record_of l pair) is_found)
    where
      go : (b : Bool) → same s (zeros record_length) ≡ b → b || is_record s ≡ true → is_record s ≡ true
      go true q k =
          let none_there : field s 0 1 ≡ 0 = ap (λ (t : List ℕ). field t 0 1) (same_equal s (zeros record_length) q) ∙ zeros_pair in
          let own : field s 0 1 ≡ pair = sym (pair_from s) ∙ pair_in_lem l (record_of l pair) ∙ found_pair l pair is_found in
          absurd (omega arith)
      go false q k = k

  pub found_sound : line_sound x ≡ true
  unfolding is_record
  found_sound = ap line_sound (sym is_line) ∙ and_right (leb 1 (field s 0 1) && leb (field s 0 1) 64 && line_written s) (line_sound (line_from s)) used_record

  pub found_storable : all_of (below 256) l ≡ true → line_storable x ≡ true
  unfolding slot
  found_storable octets =
      let size : length l ≡ table_length = table_length_lem l sound in
      ap line_storable (sym is_line)
      ∙ RoundTrip.storable s (all_of_part (below 256) l (record_length * record_of l pair) record_length octets) (length_part l (record_length * record_of l pair) record_length (omega (arith, is_found))) used_record

-- open takes a free record for a pair that is not open
module _ (l : List ℕ) (good : Good l) (tenant line : ℕ) where
  abbrev p : ℕ
  p = pair_of tenant line

  abbrev ss : List Slot
  ss = slots_of l

  abbrev v : View
  v = view_of (is_table l) tenant ss

  opening_ready : NoRow (opening tenant line) v → Ready l (step (opening tenant line) v).act
  unfolding step may_stand is_of pair_in view_of is_no_pair is_open_already is_full
  opening_ready r =
      let pair_is = r.row_2 in
      let closed : is_open p ss ≡ false = open_line p (pair_low tenant line pair_is) ss ∙ ap is_some (sym (own_is tenant line pair_is ss (is_table l))) ∙ r.row_4 in
      (ltb-true (record_of l 0) 32 (sym (open_found l 0) ∙ not-false v.free r.row_6), used_fits tenant line pair_is fresh fresh_sound fresh_storable, or_true (eqb p 0 || eqb p 0) (not (is_open p ss)) (ap not closed))

  closing_ready : NoRow (closing tenant line) v → Ready l (step (closing tenant line) v).act
  unfolding step may_stand is_of pair_in slot_fits is_no_pair is_not_open
  closing_ready r =
      let pair_is = r.row_2 in
      let there = not-false (is_some (line_seen v line)) r.row_5 in
      let opened : is_open p ss ≡ true = open_line p (pair_low tenant line pair_is) ss ∙ ap is_some (sym (own_is tenant line pair_is ss (is_table l))) ∙ there in
      (ltb-true (record_of l p) 32 (sym (open_found l p) ∙ opened), refl, refl)

-- where a timed call is accepted, none of its event's conditions holds
pub event_number : (tenant line time : ℕ) (e : Event) (v : View) → NoRow (timed tenant line time e) v
    → refusal (refusals_of e (ltb last_time time) (line_found line time v)) ≡ 0
unfolding event_refusals
event_number tenant line time e v r = none_given (refusals_of e (ltb last_time time) (line_found line time v)) (event_fails (timed tenant line time e) v r)

-- and it has a pair
pub timed_pair : (tenant line time : ℕ) (e : Event) (v : View) → NoRow (timed tenant line time e) v → is_above_last tenant line ≡ false
unfolding is_no_pair
timed_pair tenant line time e v r = r.row_2

module _ (l : List ℕ) (good : Good l) (tenant line time : ℕ) (e : Event) (octets : all_of (below 256) (event_octets e) ≡ true)
    (r : NoRow (timed tenant line time e) (view_of (is_table l) tenant (slots_of l))) where
  abbrev w : View
  w = view_of (is_table l) tenant (slots_of l)

  abbrev change_of : Line → Act
  change_of y = (timed_step tenant line e y).act

  -- the line that it finds stands in its record
  line_ready : (x : Line) → line_seen w line ≡ Some x → Ready l (change_of (line_found line time w))
  unfolding timed_step line_found line_or may_stand is_of pair_in
  line_ready x seen =
      let q = pair_of tenant line in
      let pair_is = timed_pair tenant line time e w r in
      let low = pair_low tenant line pair_is in
      let at_pair : line_at q (slots_of l) ≡ Some x = sym (own_is tenant line pair_is (slots_of l) (is_table l)) ∙ seen in
      let found : line_found line time w ≡ current time x = ap (λ (o : Option Line). current time (line_or o)) seen in
      let number = subst (λ (y : Line). refusal (refusals_of e (ltb last_time time) y) ≡ 0) found (event_number tenant line time e w r) in
      let kept = keeps_line e time x octets (found_sound l good.sound q low x at_pair) (found_storable l good.sound q low x at_pair good.octets) number in
      let own : eqb q 0 || eqb q q ≡ true = or_true (eqb q 0) (eqb q q) (eq-eqb q q refl) in
      subst (λ (y : Line). Ready l (change_of y)) (sym found)
      (is_found l good.sound q low x at_pair, used_fits tenant line pair_is (outcome e (current time x)).line kept.0 kept.1, ap (λ (b : Bool). b || not (is_open q (slots_of l))) own)

  timed_ready : Ready l (change_of (line_found line time w))
  unfolding is_not_open
  timed_ready = go (line_seen w line) refl
    where
      go : (o : Option Line) → line_seen w line ≡ o → Ready l (change_of (line_found line time w))
      go None seen = absurd (true≢false (sym (ap (λ (o : Option Line). not (is_some o)) seen) ∙ r.row_5))
      go (Some x) seen = line_ready x seen

pub ready : (c : Call) (l : List ℕ) → is_octets c ≡ true → Good l → refusal (refusals c (view_in c l)) ≡ 0 → Ready l (step_of c l).act
unfolding step_of view_in tenant_of step is_octets lent_octets
ready (opening tenant line) l octets good e = opening_ready l good tenant line (no_row (opening tenant line) _ e)
ready (closing tenant line) l octets good e = closing_ready l good tenant line (no_row (closing tenant line) _ e)
ready (listing tenant room) l octets good e = tt
ready (timed tenant line time event) l octets good e = timed_ready l good tenant line time event octets (no_row (timed tenant line time event) _ e)
