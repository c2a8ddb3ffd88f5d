-- What open and close return.
use Rattle.std.specs.Prelude.{Option, None, Some, MatchOption, is_some}
use Prim.Native.Nat.{ℕ, ◌*◌, ◌≤◌, ◌<◌}
use mathlib.Core.Bool.{true, false, false≢true}
use mathlib.Core.List.{List, []}
use mathlib.Core.Path.{◌≡◌, refl, sym, ◌∙◌}
use native.Mathlib.Omega.{arith}
use borrow.Author.Tests.{le-ltb, lt-ltb}
use Rattle.octets.specs.Part.{zeros, Wrote}
use Rattle.octets.specs.Refusal.{refusal}
use Rattle.refusal.specs.Numbers.{number_of}
use Rattle.refusal.specs.declared.Refusal.{Refusal}
use Rattle.record.specs.Line.{Line}
use Rattle.record.specs.Octets.{record_length, record_octets}
use Rattle.table.specs.Slots.{put, slot_octets, slots_of}
use Rattle.table.specs.Table.{free_pair, is_table, record_count, record_of}
use Rattle.table.proofs.Views.{open_found}
use Rattle.rules.specs.Answer.{refused, room_of}
use Rattle.rules.specs.Call.{Call, closing, opening, pair_of, tenant_of}
use Rattle.rules.specs.Refusals.{event_refusals, is_above_last, is_early, is_full, is_no_pair, is_not_open, is_open_already, is_short, least_room, refusals}
use Rattle.rules.specs.Run.{applied, bare, run, step, step_of}
use Rattle.rules.specs.View.{View, fresh, line_seen, own_line, view_in, view_of}
use Rattle.rules.proofs.Runs.{accepted}
use Rattle.frame.specs.Entering.{first_refusals}
use Rattle.frame.proofs.Entries.{in_range_lem, is_sound, line_seen_lem, refused_at_first, refused_by}
use Rattle.frame.specs.Returned.{returned}

-- a refused call without numbers and buffers
module _ (c : Call) (bare_is : (n : ℕ) → refused n c ≡ record { refusal = n; numbers = []; part = []; buffer = [] }) (l : List ℕ) where
  pub turned_away : (r : Refusal) → refusal (refusals c (view_in c l)) ≡ number_of r → returned (number_of r) [] [] [] l ≡ run c l
  unfolding returned
  turned_away r number = sym (refused_by c l r number ∙ rw (bare_is (number_of r)))

-- open and close that none of the first three refuses
module _ (tenant line : ℕ) (v : View) (sound : v.sound ≡ true) where
  abbrev to_open : Call
  to_open = opening tenant line

  abbrev to_close : Call
  to_close = closing tenant line

  module _ (pair_is : is_no_pair to_open ≡ false) (long : is_short to_open ≡ false) where
    open_again : (x : Line) → line_seen v line ≡ Some x → refusal (refusals to_open v) ≡ 4
    unfolding refusal refusals is_open_already
    open_again x seen = rw (seen, sound, pair_is, long)

    module _ (seen : line_seen v line ≡ None) where
      open_full : v.free ≡ false → refusal (refusals to_open v) ≡ 6
      unfolding refusal refusals is_open_already is_not_open is_full
      open_full full = rw (seen, sound, pair_is, long, full)

      open_goes : v.free ≡ true → refusal (refusals to_open v) ≡ 0
      unfolding refusal refusals is_open_already is_not_open is_full is_early event_refusals
      open_goes room = rw (seen, sound, pair_is, long, room)

  module _ (pair_is : is_no_pair to_close ≡ false) (long : is_short to_close ≡ false) where
    close_closed : line_seen v line ≡ None → refusal (refusals to_close v) ≡ 5
    unfolding refusal refusals is_open_already is_not_open
    close_closed seen = rw (seen, sound, pair_is, long)

    close_goes : (x : Line) → line_seen v line ≡ Some x → refusal (refusals to_close v) ≡ 0
    unfolding refusal refusals is_open_already is_not_open is_full is_early event_refusals
    close_goes x seen = rw (seen, sound, pair_is, long)

-- the tests for 1, 2 and 3
module _ (l : List ℕ) (tenant line : ℕ) where
  abbrev opens : Call
  opens = opening tenant line

  abbrev closes : Call
  closes = closing tenant line

  -- one of them refuses the call
  module _ (r : Refusal) (number : number_of r ≡ refusal (first_refusals l tenant line false)) where
    pub open_at_first : returned (number_of r) [] [] [] l ≡ run opens l
    unfolding refused is_no_pair is_short room_of least_room
    open_at_first = turned_away opens (λ k. refl) l r (refused_at_first l tenant line false r number opens refl refl)

    pub close_at_first : returned (number_of r) [] [] [] l ≡ run closes l
    unfolding refused is_no_pair is_short room_of least_room
    close_at_first = turned_away closes (λ k. refl) l r (refused_at_first l tenant line false r number closes refl refl)

  module _ (none_given : 0 ≡ refusal (first_refusals l tenant line false)) where
    sound : is_table l ≡ true
    sound = is_sound l tenant line false none_given

    pair_is : is_above_last tenant line ≡ false
    pair_is = in_range_lem l tenant line false none_given

    seen_open : (o : Option Line) → own_line tenant (slots_of l) line ≡ o → line_seen (view_in opens l) line ≡ o
    unfolding tenant_of
    seen_open o e = line_seen_lem opens l line pair_is ∙ e

    seen_close : (o : Option Line) → own_line tenant (slots_of l) line ≡ o → line_seen (view_in closes l) line ≡ o
    unfolding tenant_of
    seen_close o e = line_seen_lem closes l line pair_is ∙ e

    -- the pair is open
    module _ (x : Line) (there : own_line tenant (slots_of l) line ≡ Some x) where
      pub opened_already : returned 4 [] [] [] l ≡ run opens l
      unfolding refused view_in view_of is_no_pair is_short room_of least_room
      opened_already = turned_away opens (λ k. refl) l Refusal.Open (open_again tenant line (view_in opens l) sound pair_is refl x (seen_open (Some x) there))

      pub closed : (at pair : ℕ) → pair ≡ pair_of tenant line → at ≡ record_of l pair → (m : List ℕ) → Wrote l (record_length * at) (zeros record_length) m
          → returned 0 [] [] [] m ≡ run closes l
      unfolding returned step_of step applied bare put slot_octets view_in view_of is_no_pair is_short room_of least_room
      closed at pair is found m w =
          rw (w.wrote, found, is)
          (sym (accepted closes l (close_goes tenant line (view_in closes l) sound pair_is refl x (seen_close (Some x) there))))

    -- the pair isn't open
    module _ (none_there : own_line tenant (slots_of l) line ≡ None) where
      pub not_open : returned 5 [] [] [] l ≡ run closes l
      unfolding refused view_in view_of is_no_pair is_short room_of least_room
      not_open = turned_away closes (λ k. refl) l Refusal.NotOpen (close_closed tenant line (view_in closes l) sound pair_is refl (seen_close None none_there))

      module _ (at : ℕ) (found : at ≡ record_of l free_pair) where
        pub all_taken : 32 ≤ at → returned 6 [] [] [] l ≡ run opens l
        unfolding refused view_in view_of is_no_pair is_short room_of least_room
        all_taken full =
            turned_away opens (λ k. refl) l Refusal.Full
            (open_full tenant line (view_in opens l) sound pair_is refl (seen_open None none_there) (open_found l free_pair ∙ le-ltb (record_of l free_pair) 32 (omega (arith, found))))

        pub opened : at < 32 → (pair : ℕ) → pair ≡ pair_of tenant line → (m : List ℕ) → Wrote l (record_length * at) (record_octets pair fresh) m
            → returned 0 [] [] [] m ≡ run opens l
        unfolding returned step_of step applied bare put slot_octets view_in view_of is_no_pair is_short room_of least_room
        opened room pair is m w =
            rw (w.wrote, found, is)
            (sym (accepted opens l (open_goes tenant line (view_in opens l) sound pair_is refl (seen_open None none_there) (open_found l free_pair ∙ lt-ltb (record_of l free_pair) 32 (omega (arith, found))))))

-- whether the record of a pair is found
module _ (l : List ℕ) (pair : ℕ) where
  pub is_found : (o : Option ℕ) → MatchOption o (record_count ≤ record_of l pair) (λ i. (i ≡ record_of l pair) × (i < record_count)) → true ≡ is_some o → record_of l pair < record_count
  is_found None m h = absurd (false≢true (sym h))
  is_found (Some i) m h = omega (arith, m.0, m.1)

  pub is_missing : (o : Option ℕ) → MatchOption o (record_count ≤ record_of l pair) (λ i. (i ≡ record_of l pair) × (i < record_count)) → false ≡ is_some o → record_count ≤ record_of l pair
  is_missing None m h = m
  is_missing (Some i) m h = absurd (false≢true h)
