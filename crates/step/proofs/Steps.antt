-- What a step has to show: by the tests that it has made, the refusal number; by that number, what it answers.
use Rattle.std.specs.Prelude.{Err}
use Prim.Native.Nat.{ℕ, zero, suc, ◌-◌, ◌≤◌}
use mathlib.Core.Bool.{Bool, true, false}
use mathlib.Core.List.{List, []}
use mathlib.Core.Path.{◌≡◌, refl, sym, ap, ◌∙◌}
use native.Mathlib.Omega.{arith}
use lib.Dec.{ltb}
use Rattle.octets.specs.Part.{padded, zeros}
use Rattle.octets.specs.Refusal.{refusal}
use Rattle.record.specs.Changes.{current}
use Rattle.record.specs.Line.{Line}
use Rattle.refusal.specs.Numbers.{number_of}
use Rattle.refusal.specs.declared.Refusal.{Refusal}
use Rattle.refusal.proofs.Numbers.{some_number}
use Rattle.rules.specs.Answer.{event_room}
use Rattle.rules.specs.Call.{Event, last_time}
use Rattle.rules.specs.Life.{Outcome, becomes, outcome}
use Rattle.rules.specs.Refusals.{has_no_room, is_allowed, is_held_full, is_malformed, is_out_of_range, is_spi_taken, refusals_of}
use Rattle.rules.specs.declared.Action.{Action}
use Rattle.step.specs.Step.{Effect, effect, effect_in, outcome_by}

-- the number by the tests in rising order
module _ (e : Event) (out : Bool) (x : Line) where
  pub late : out ≡ true → refusal (refusals_of e out x) ≡ 8
  unfolding refusals_of refusal
  late q = rw q

  module _ (timely : out ≡ false) where
    pub unfit : is_out_of_range e x ≡ true → refusal (refusals_of e out x) ≡ 8
    unfolding refusals_of refusal
    unfit q = rw (timely, q)

    module _ (fit : is_out_of_range e x ≡ false) where
      pub malformed : is_malformed e ≡ true → refusal (refusals_of e out x) ≡ 9
      unfolding refusals_of refusal
      malformed q = rw (timely, fit, q)

      module _ (formed : is_malformed e ≡ false) where
        pub untimely : is_allowed e x ≡ false → refusal (refusals_of e out x) ≡ 10
        unfolding refusals_of refusal
        untimely q = rw (timely, fit, formed, q)

        module _ (allowed : is_allowed e x ≡ true) where
          pub spi_taken : is_spi_taken e x ≡ true → refusal (refusals_of e out x) ≡ 11
          unfolding refusals_of refusal
          spi_taken q = rw (timely, fit, formed, allowed, q)

          module _ (new : is_spi_taken e x ≡ false) where
            pub no_room : has_no_room e x ≡ true → refusal (refusals_of e out x) ≡ 12
            unfolding refusals_of refusal
            no_room q = rw (timely, fit, formed, allowed, new, q)

            module _ (room : has_no_room e x ≡ false) where
              pub held_full : is_held_full e x ≡ true → refusal (refusals_of e out x) ≡ 13
              unfolding refusals_of refusal
              held_full q = rw (timely, fit, formed, allowed, new, room, q)

              pub accepted : is_held_full e x ≡ false → refusal (refusals_of e out x) ≡ 0
              unfolding refusals_of refusal
              accepted q = rw (timely, fit, formed, allowed, new, room, q)

pub less_none : (n : ℕ) → n - 0 ≡ n
less_none n = omega arith

-- what an accepted step comes to
abbrev pub accepted_as : Line → Action → List ℕ → List ℕ → Effect
accepted_as y action part buffer = record { refusal = 0; line = y; action = action; part = part; buffer = buffer }

-- an event on a line that was found
module _ (e : Event) (time : ℕ) (x found : Line) (is_found : found ≡ current time x) where
  by_number : (n : ℕ) → refusal (refusals_of e (ltb last_time time) found) ≡ n → (o : Outcome) → outcome_by n e x found ≡ o
      → record { refusal = n; line = o.line; action = o.action; part = o.part; buffer = padded (event_room e) o.written } ≡ effect e time x
  unfolding effect
  by_number n number o is = sym (rw (sym is_found, number, is))

  -- it is refused: the line stays as it was
  pub turned_away : (r : Refusal) → refusal (refusals_of e (ltb last_time time) found) ≡ number_of r → effect_in x (Err r) [] (zeros (event_room e)) ≡ effect e time x
  unfolding outcome_by padded
  turned_away r number = go (number_of r) number (some_number r)
    where
      go : (n : ℕ) → refusal (refusals_of e (ltb last_time time) found) ≡ n → 1 ≤ n
          → record { refusal = n; line = x; action = Action.Nothing; part = []; buffer = zeros (event_room e) } ≡ effect e time x
      go zero number some = absurd (omega arith)
      go (suc n) number some =
          ap (λ (k : ℕ). record { refusal = suc n; line = x; action = Action.Nothing; part = []; buffer = zeros k }) (sym (less_none (event_room e)))
          ∙ by_number (suc n) number (becomes x Action.Nothing) refl

  -- it is accepted: the line and the action are those of the outcome
  pub taken : refusal (refusals_of e (ltb last_time time) found) ≡ 0 → (o : Outcome) → outcome e found ≡ o → {y : Line} {action : Action} → y ≡ o.line → action ≡ o.action
      → accepted_as y action o.part (padded (event_room e) o.written) ≡ effect e time x
  unfolding outcome_by
  taken number o is line action = rw (line, action) (by_number 0 number o is)
