-- What a timed call's event comes to on the line that the call finds, refused or accepted.
use Rattle.std.specs.Prelude.{ℕ, zero, suc, true, false, List, ◌≡◌, ltb, Result, Ok, Err}
use Rattle.octets.specs.Part.{padded}
use Rattle.octets.specs.Refusal.{refusal}
use Rattle.record.specs.Changes.{current}
use Rattle.record.specs.Line.{Line, line_of}
use Rattle.record.specs.declared.Record.{Record}
use Rattle.refusal.specs.Numbers.{number_of}
use Rattle.refusal.specs.declared.Refusal.{Refusal}
use Rattle.rules.specs.Answer.{event_room}
use Rattle.rules.specs.Call.{Event, last_time}
use Rattle.rules.specs.Life.{Outcome, becomes, outcome}
use Rattle.rules.specs.Refusals.{refusals_of}
use Rattle.rules.specs.declared.Action.{Action}
use Rattle.step.specs.declared.Done.{Done}

-- the refusal number from 8 to 13 or 0, the line afterwards, the action, the octets of the part, the answer buffer whole
pub record Effect : Type 0 where
  pub refusal : ℕ
  pub line : Line
  pub action : Action
  pub part : List ℕ
  pub buffer : List ℕ

-- by the refusal number, of a line and of what a call finds of it: a refused event leaves the line as it was, with nothing to do, to return or to write
unfoldable pub outcome_by : ℕ → Event → Line → Line → Outcome
outcome_by zero e x found = outcome e found
outcome_by (suc n) e x found = becomes x Action.Nothing

-- an event at a time on a line, with zeros behind what is written to the answer buffer
unfoldable pub effect : Event → ℕ → Line → Effect
effect e time x =
    let found = current time x in
    let n = refusal (refusals_of e (ltb last_time time) found) in
    let o = outcome_by n e x found in
    record { refusal = n; line = o.line; action = o.action; part = o.part; buffer = padded (event_room e) o.written }

-- what a step comes to on a line, with the octets of the part and the answer buffer: a refused one leaves the line as it was, with nothing to do
abbrev pub effect_in : Line → Result Done Refusal → List ℕ → List ℕ → Effect
effect_in x (Ok done) part buffer = record { refusal = 0; line = line_of done.line; action = done.action; part = part; buffer = buffer }
effect_in x (Err r) part buffer = record { refusal = number_of r; line = x; action = Action.Nothing; part = part; buffer = buffer }

-- what a step asks of the daemon: nothing where it is refused
abbrev pub action_in : Result Done Refusal → Action
action_in (Ok done) = done.action
action_in (Err r) = Action.Nothing

-- a time after the last one
pub record Late (r : Refusal) (time : ℕ) : Type 0 where
  pub refused : r ≡ Refusal.Range
  pub is_late : ltb last_time time ≡ true

-- the line that a call at a time in its range finds
pub record Timely (found : Line) (time : ℕ) (x : Line) : Type 0 where
  pub in_range : ltb last_time time ≡ false
  pub line_is : found ≡ current time x

-- the line as a call at a time finds it, or a refusal after the last time
abbrev pub Finds : Result Record Refusal → ℕ → Line → Type 0
Finds (Ok found) time x = Timely (line_of found) time x
Finds (Err r) time x = Late r time
