-- What the calls of an attempt return, by the choice that was made.
use Rattle.std.specs.Prelude.{Ok, Err}
use Prim.Native.Nat.{ℕ, zero, suc}
use mathlib.Core.Bool.{Bool}
use mathlib.Core.List.{List, []}
use mathlib.Core.Path.{◌≡◌, refl, sym, ap, ◌∙◌}
use lib.Dec.{ltb}
use Rattle.octets.specs.Part.{padded, zeros}
use Rattle.octets.specs.Refusal.{refusal}
use Rattle.refusal.specs.Numbers.{number_of}
use Rattle.refusal.specs.declared.Refusal.{Refusal}
use Rattle.record.specs.Changes.{current}
use Rattle.record.specs.Line.{Line}
use Rattle.record.specs.Octets.{line_from}
use Rattle.table.specs.Table.{slot}
use Rattle.rules.specs.Answer.{event_room, number_count, numbers_of, part_named, twelve}
use Rattle.rules.specs.Call.{Event, last_time, timed}
use Rattle.rules.specs.Life.{Outcome, outcome}
use Rattle.rules.specs.Refusals.{is_short, refusals_of}
use Rattle.rules.specs.Run.{run}
use Rattle.rules.specs.declared.Action.{Action}
use Rattle.step.specs.Laws.{result_by, stored_by}
use Rattle.step.specs.Step.{Effect, effect, outcome_by}
use Rattle.step.proofs.Steps.{less_none}
use Rattle.frame.specs.Entering.{Passes}
use Rattle.frame.specs.Returned.{returned, told}
use Rattle.frame.specs.declared.Entered.{Entered}
use Rattle.frame.proofs.Entries.{numbered}
use Rattle.setup.specs.Finishing.{Finishes}

module _ (tenant line time : ℕ) (e : Event) (short : Bool) (l : List ℕ) (room_is : is_short (timed tenant line time e) ≡ short) (r : Entered) (passes : Passes r tenant line time short l) where
  abbrev own : Line
  own = line_from (slot l r.at)

  abbrev found : Line
  found = current time own

  -- what the event comes to by its refusal number
  abbrev by_number : ℕ → Effect
  by_number n =
      let o = outcome_by n e own found in
      record { refusal = n; line = o.line; action = o.action; part = o.part; buffer = padded (event_room e) o.written }

  comes : (n : ℕ) → refusal (refusals_of e (ltb last_time time) found) ≡ n → result_by (by_number n) r.pair l ≡ run (timed tenant line time e) l
  unfolding effect
  comes n number = sym (passes.result_is e room_is ∙ ap (λ (k : ℕ). result_by (by_number k) r.pair l) number)

  -- a choice that was refused
  pub refuses : (n : Refusal) → refusal (refusals_of e (ltb last_time time) found) ≡ number_of n → {name : List ℕ} → name ≡ zeros (event_room e) → told (Err n) [] name l ≡ run (timed tenant line time e) l
  unfolding returned result_by stored_by outcome_by numbers_of twelve zeros padded
  refuses n number cleared = rw cleared (go (number_of n) number (numbered n))
    where
      go : (k : ℕ) → refusal (refusals_of e (ltb last_time time) found) ≡ k → (k ≡ 0 → ⊥) → returned k (zeros number_count) [] (zeros (event_room e)) l ≡ run (timed tenant line time e) l
      go zero is some = absurd (some refl)
      go (suc k) is some =
          ap (λ (m : ℕ). returned (suc k) (zeros number_count) [] (zeros m) l) (sym (less_none (event_room e))) ∙ comes (suc k) is

  -- a choice that decides
  pub decides : (o : Outcome) → refusal (refusals_of e (ltb last_time time) found) ≡ 0 → outcome e found ≡ o → {action : Action} {text name table : List ℕ} {room : ℕ} → room ≡ event_room e
      → Finishes o r action text name room l table → told (Ok action) (part_named (numbers_of action) text name []) name table ≡ run (timed tenant line time e) l
  unfolding returned result_by outcome_by
  decides o number is {name = name} sized s =
      let written = s.name_is ∙ ap (λ (i : ℕ). padded i o.written) sized in
      rw (s.table_is, s.part_is, s.action_is)
      (ap (λ (b : List ℕ). returned 0 (numbers_of o.action) o.part b (stored_by 0 r.pair o.line l)) written
      ∙ ap (λ (p : Outcome). result_by (record { refusal = 0; line = p.line; action = p.action; part = p.part; buffer = padded (event_room e) p.written }) r.pair l) (sym is) ∙ comes 0 number)
