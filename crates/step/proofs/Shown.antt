-- What a step has to show at each of its returns: by the tests that it has made, it is refused, or the outcome is the definition's.
use Rattle.std.specs.Prelude.{IsErr, IsErrAnd, Result, Ok, Err}
use Prim.Native.Nat.{ℕ}
use mathlib.Core.Bool.{true, false}
use mathlib.Core.List.{[]}
use mathlib.Core.Path.{◌≡◌, refl, ap}
use Rattle.octets.specs.Part.{padded, zeros}
use Rattle.record.specs.Changes.{current}
use Rattle.record.specs.Line.{Line}
use Rattle.refusal.specs.declared.Refusal.{Refusal}
use Rattle.rules.specs.Answer.{event_room}
use Rattle.rules.specs.Call.{Event}
use Rattle.rules.specs.Life.{Outcome, outcome}
use Rattle.rules.specs.Refusals.{has_no_room, is_allowed, is_held_full, is_malformed, is_out_of_range, is_spi_taken}
use Rattle.rules.specs.declared.Action.{Action}
use Rattle.step.specs.Step.{Late, Timely, effect, effect_in}
use Rattle.step.specs.declared.Done.{Done}
use Rattle.step.proofs.Steps as Number
use Rattle.step.proofs.Steps.{accepted_as, taken, turned_away}

-- what is to be shown of a refusal
abbrev pub Refused : Event → ℕ → Line → Refusal → Type 0
Refused e time x r = effect_in x (Err r) [] (zeros (event_room e)) ≡ effect e time x

-- a refusal that is passed on is the same one
pub passed_on : {A : Type 0} {r : Refusal} (s : Result A Refusal) → IsErr s × IsErrAnd s (λ q. q ≡ r) → s ≡ Err r
passed_on (Ok a) is = absurd is.1
passed_on (Err q) is = ap Err is.1

-- a late call is refused
pub late : (e : Event) (x : Line) {time : ℕ} {r : Refusal} (s : Result Done Refusal) → IsErr s × IsErrAnd s (λ q. q ≡ r) → Late r time
    → effect_in x s [] (zeros (event_room e)) ≡ effect e time x
late e x {time} s is l = rw (passed_on s is, l.refused) (turned_away e time x (current time x) refl Refusal.Range (Number.late e _ _ l.is_late))

module _ (e : Event) {time : ℕ} {x : Line} {f : Line} (found : Timely f time x) where
  pub unfit : is_out_of_range e f ≡ true → Refused e time x Refusal.Range
  unfit q = turned_away e time x f found.line_is Refusal.Range (Number.unfit e _ _ found.in_range q)

  module _ (fit : is_out_of_range e f ≡ false) where
    pub malformed : is_malformed e ≡ true → Refused e time x Refusal.Malformed
    malformed q = turned_away e time x f found.line_is Refusal.Malformed (Number.malformed e _ _ found.in_range fit q)

    module _ (formed : is_malformed e ≡ false) where
      pub untimely : is_allowed e f ≡ false → Refused e time x Refusal.Phase
      untimely q = turned_away e time x f found.line_is Refusal.Phase (Number.untimely e _ _ found.in_range fit formed q)

      module _ (allowed : is_allowed e f ≡ true) where
        pub spi_taken : is_spi_taken e f ≡ true → Refused e time x Refusal.Spi
        spi_taken q = turned_away e time x f found.line_is Refusal.Spi (Number.spi_taken e _ _ found.in_range fit formed allowed q)

        module _ (new : is_spi_taken e f ≡ false) where
          pub no_room : has_no_room e f ≡ true → Refused e time x Refusal.Children
          no_room q = turned_away e time x f found.line_is Refusal.Children (Number.no_room e _ _ found.in_range fit formed allowed new q)

          module _ (room : has_no_room e f ≡ false) where
            -- what an accepted step leaves is the line and the action of the outcome
            pub done : is_held_full e f ≡ false → {o : Outcome} → outcome e f ≡ o → {y : Line} {action : Action} → y ≡ o.line → action ≡ o.action
                → accepted_as y action o.part (padded (event_room e) o.written) ≡ effect e time x
            done free {o} is line action = taken e time x f found.line_is (Number.accepted e _ _ found.in_range fit formed allowed new room free) o is line action
