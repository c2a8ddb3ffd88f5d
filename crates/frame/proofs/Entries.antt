-- The refusal of a call by its entry tests, and what they settle of a timed call.
use Rattle.std.specs.Prelude.{Option, None, Some, Err}
use Prim.Native.Nat.{ℕ, zero, suc}
use mathlib.Core.Bool.{Bool, true, false, not, ◌||◌}
use mathlib.Core.List.{List, []}
use mathlib.Core.Path.{◌≡◌, refl, sym, ap, ◌∙◌}
use native.Mathlib.Omega.{arith}
use borrow.Author.Tests.{not-false}
use lib.Dec.{leb, ltb}
use Rattle.octets.specs.Refusal.{refusal}
use Rattle.octets.proofs.Refusals.{refusal_ahead, refusal_step}
use Rattle.refusal.specs.Numbers.{number_of}
use Rattle.refusal.specs.declared.Refusal.{Refusal}
use Rattle.record.specs.Line.{Line}
use Rattle.record.specs.Octets.{line_from}
use Rattle.table.specs.Slots.{slots_of}
use Rattle.table.specs.Table.{is_table, slot}
use Rattle.rules.specs.Answer.{refused}
use Rattle.rules.specs.Call.{Call, Event, pair_of, tenant_of, timed}
use Rattle.rules.specs.Refusals.{is_above_last, is_early, is_full, is_no_pair, is_not_open, is_open_already, is_short, refusals}
use Rattle.rules.specs.Run.{run, settled, step_of}
use Rattle.rules.specs.View.{View, line_or, line_seen, own_line, view_in, view_of}
use Rattle.rules.proofs.Accepted.{own_is}
use Rattle.step.proofs.Running.{effect_run}
use Rattle.frame.specs.Entering.{Enters, Passes, Stands, first_refusals}
use Rattle.frame.specs.declared.Entered.{Entered}

pub above_last : (tenant line : ℕ) → is_above_last tenant line ≡ leb 16 tenant || leb 4 line
unfolding is_above_last
above_last tenant line = refl

-- a refusal has a number
pub numbered : (r : Refusal) → number_of r ≡ 0 → ⊥
numbered Refusal.Table h = omega (arith, h)
numbered Refusal.Pair h = omega (arith, h)
numbered Refusal.Buffer h = omega (arith, h)
numbered Refusal.Open h = omega (arith, h)
numbered Refusal.NotOpen h = omega (arith, h)
numbered Refusal.Full h = omega (arith, h)
numbered Refusal.Early h = omega (arith, h)
numbered Refusal.Range h = omega (arith, h)
numbered Refusal.Malformed h = omega (arith, h)
numbered Refusal.Phase h = omega (arith, h)
numbered Refusal.Spi h = omega (arith, h)
numbered Refusal.Children h = omega (arith, h)
numbered Refusal.Holds h = omega (arith, h)

-- a refused call returns its number and leaves the table
pub refused_by : (c : Call) (l : List ℕ) (r : Refusal) → refusal (refusals c (view_in c l)) ≡ number_of r → run c l ≡ record { answer = refused (number_of r) c; table = l }
unfolding run settled
refused_by c l r number = go (number_of r) number (numbered r)
  where
    go : (n : ℕ) → refusal (refusals c (view_in c l)) ≡ n → (n ≡ 0 → ⊥) → settled (refusal (refusals c (view_in c l))) c (step_of c l) l ≡ record { answer = refused n c; table = l }
    go zero is some = absurd (some refl)
    go (suc n) is some = ap (λ (k : ℕ). settled k c (step_of c l) l) is

-- the tests for 1, 2 and 3, of a pair and of an answer buffer that is too short or not
module _ (l : List ℕ) (tenant line : ℕ) (short : Bool) where
  -- one of them refuses the call
  pub refused_at_first : (r : Refusal) → number_of r ≡ refusal (first_refusals l tenant line short) → (c : Call) → is_no_pair c ≡ is_above_last tenant line → is_short c ≡ short
      → refusal (refusals c (view_in c l)) ≡ number_of r
  unfolding refusals first_refusals view_in view_of
  refused_at_first r number c pair_is room_is =
      rw (pair_is, room_is) (refusal_ahead (first_refusals l tenant line short) _ (λ z. numbered r (number ∙ z)) ∙ sym number)

  module _ (none_given : 0 ≡ refusal (first_refusals l tenant line short)) where
    tests : (not (is_table l) ≡ false) × (is_above_last tenant line ≡ false) × (short ≡ false)
    unfolding first_refusals
    tests =
        let by_1 = refusal_step 0 (not (is_table l)) _ (sym none_given) in
        let by_2 = refusal_step 1 (is_above_last tenant line) _ by_1.1 in
        (by_1.0, by_2.0, (refusal_step 2 short [] by_2.1).0)

    pub is_sound : is_table l ≡ true
    is_sound = not-false (is_table l) tests.0

    pub in_range_lem : is_above_last tenant line ≡ false
    in_range_lem = tests.1

    pub is_long_lem : short ≡ false
    is_long_lem = tests.2

-- the line that a call sees is the one of its pair
pub line_seen_lem : (c : Call) (l : List ℕ) (line : ℕ) → is_above_last (tenant_of c) line ≡ false → line_seen (view_in c l) line ≡ own_line (tenant_of c) (slots_of l) line
unfolding own_line view_in
line_seen_lem c l line pair_is = own_is (tenant_of c) line pair_is (slots_of l) (is_table l)

-- a timed call that none of the first three refuses
module _ (tenant line time : ℕ) (e : Event) (v : View) (sound : v.sound ≡ true) (pair_is : is_no_pair (timed tenant line time e) ≡ false)
    (long : is_short (timed tenant line time e) ≡ false) where
  closed_number : line_seen v line ≡ None → refusal (refusals (timed tenant line time e) v) ≡ 5
  unfolding refusal refusals is_open_already is_not_open
  closed_number seen = rw (seen, sound, pair_is, long)

  early_number : (x : Line) → line_seen v line ≡ Some x → ltb time x.time ≡ true → refusal (refusals (timed tenant line time e) v) ≡ 7
  unfolding refusal refusals is_open_already is_not_open is_full is_early line_or
  early_number x seen early = rw (seen, sound, pair_is, long, early)

-- the entry tests of a timed call
module _ (tenant line time : ℕ) (short : Bool) (l : List ℕ) where
  abbrev call : Event → Call
  call e = timed tenant line time e

  pub by_first : (r : Refusal) → number_of r ≡ refusal (first_refusals l tenant line short) → Enters (Err r) tenant line time short l
  unfolding is_no_pair
  by_first r number e room = refused_by (call e) l r (refused_at_first l tenant line short r number (call e) refl room)

  module _ (none_given : 0 ≡ refusal (first_refusals l tenant line short)) where
    sound : is_table l ≡ true
    sound = is_sound l tenant line short none_given

    pair_is : is_above_last tenant line ≡ false
    pair_is = in_range_lem l tenant line short none_given

    long : short ≡ false
    long = is_long_lem l tenant line short none_given

    seen : (o : Option Line) (e : Event) → own_line tenant (slots_of l) line ≡ o → line_seen (view_in (call e) l) line ≡ o
    unfolding tenant_of
    seen o e there = line_seen_lem (call e) l line pair_is ∙ there

    -- the pair isn't open
    pub by_closed : own_line tenant (slots_of l) line ≡ None → Enters (Err Refusal.NotOpen) tenant line time short l
    unfolding view_in view_of is_no_pair
    by_closed none_there e room =
        refused_by (call e) l Refusal.NotOpen (closed_number tenant line time e (view_in (call e) l) sound pair_is (room ∙ long) (seen None e none_there))

    -- the time is earlier than the line's
    pub by_time : (x : Line) → own_line tenant (slots_of l) line ≡ Some x → ltb time x.time ≡ true → Enters (Err Refusal.Early) tenant line time short l
    unfolding view_in view_of is_no_pair
    by_time x there early e room =
        refused_by (call e) l Refusal.Early (early_number tenant line time e (view_in (call e) l) sound pair_is (room ∙ long) x (seen (Some x) e there) early)

    -- none of the tests refuses it
    module _ (r : Entered) where
      abbrev own : Line
      own = line_from (slot l r.at)

      pub by_none : own_line tenant (slots_of l) line ≡ Some own → ltb time own.time ≡ false → r.pair ≡ pair_of tenant line → Stands r l → Passes r tenant line time short l
      unfolding is_no_pair own_line
      by_none there risen pair stands = record {
        result_is = λ e room. rw pair (effect_run tenant line time e l own sound pair_is (room ∙ long) (seen (Some own) e there) risen);
        buffer_fits = long;
        stands = stands;
      }
