-- What `run` makes of a timed call is what its event comes to.
use Rattle.std.specs.Prelude.{Option, Some}
use Prim.Native.Nat.{ℕ, zero, suc}
use mathlib.Core.Bool.{true, false}
use mathlib.Core.List.{List, []}
use mathlib.Core.Path.{◌≡◌, refl, sym, ap, ◌∙◌}
use lib.Dec.{ltb}
use Rattle.octets.specs.Part.{padded, zeros}
use Rattle.octets.specs.Refusal.{refusal}
use Rattle.record.specs.Changes.{current}
use Rattle.record.specs.Line.{Line}
use Rattle.table.specs.Table.{is_table}
use Rattle.rules.specs.Answer.{event_room, number_count, numbers_of, refused, twelve}
use Rattle.rules.specs.Call.{Event, Call, timed, last_time, pair_of}
use Rattle.rules.specs.Life.{Outcome}
use Rattle.rules.specs.Refusals.{event_refusals, is_early, is_full, is_no_pair, is_not_open, is_open_already, is_short, refusals, refusals_of}
use Rattle.rules.specs.Run.{Result, answer_of, applied, run, settled, step, step_of, timed_step}
use Rattle.rules.specs.View.{View, line_found, line_or, line_seen, view_in, view_of}
use Rattle.step.specs.Laws.{result_by, stored_by}
use Rattle.step.specs.Step.{effect, outcome_by}
use Rattle.step.proofs.Steps.{less_none}

module _ (tenant line time : ℕ) (e : Event) (l : List ℕ) (x : Line) where
  abbrev c : Call
  c = timed tenant line time e

  abbrev found : Line
  found = current time x

  abbrev own : ℕ
  own = refusal (refusals_of e (ltb last_time time) found)

  abbrev result_of : ℕ → Outcome → Result
  result_of n o = result_by (record { refusal = n; line = o.line; action = o.action; part = o.part; buffer = padded (event_room e) o.written }) (pair_of tenant line) l

  -- by the number: an accepted call stores its line, a refused one returns zeros
  by_number : (n : ℕ) → settled n c (timed_step tenant line e found) l ≡ result_of n (outcome_by n e x found)
  unfolding settled timed_step applied answer_of refused outcome_by result_by stored_by numbers_of twelve zeros padded
  by_number zero = refl
  by_number (suc n) =
      ap (λ (k : ℕ). record { answer = record { refusal = suc n; numbers = zeros number_count; part = []; buffer = zeros k }; table = l }) (sym (less_none (event_room e)))

  module _ (v : View) (seen : line_seen v line ≡ Some x) where
    line_is : line_found line time v ≡ found
    unfolding line_found line_or
    line_is = ap (λ (o : Option Line). current time (line_or o)) seen

    -- where none of the first seven refusals applies, the number is the event's
    number_is : v.sound ≡ true → is_no_pair c ≡ false → is_short c ≡ false → ltb time x.time ≡ false → refusal (refusals c v) ≡ own
    unfolding refusal refusals is_open_already is_not_open is_full is_early event_refusals line_found line_or
    number_is sound pair_is long risen = rw (seen, sound, pair_is, long, risen)

  pub effect_run : is_table l ≡ true → is_no_pair c ≡ false → is_short c ≡ false → line_seen (view_in c l) line ≡ Some x → ltb time x.time ≡ false
      → run c l ≡ result_by (effect e time x) (pair_of tenant line) l
  unfolding run step_of step view_in view_of effect
  effect_run sound pair_is long seen risen =
      let v = view_in c l in
      ap (λ (n : ℕ). settled n c (timed_step tenant line e (line_found line time v)) l) (number_is v seen sound pair_is long risen)
      ∙ ap (λ (y : Line). settled own c (timed_step tenant line e y) l) (line_is v seen) ∙ by_number own
