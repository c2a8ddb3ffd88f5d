-- Which events the calls with a step are for, and what they ask of the step.
use Rattle.std.specs.Prelude.{ℕ, [], ◌≡◌, Result}
use Rattle.record.specs.Line.{line_of}
use Rattle.record.specs.declared.Record.{Record}
use Rattle.refusal.specs.declared.Refusal.{Refusal}
use Rattle.rules.specs.Answer.{event_room}
use Rattle.rules.specs.Call.{Event}
use Rattle.rules.specs.Refusals.{least_event_room}
use Rattle.step.specs.Kinds.{Kind, kind_of, move, tunnel}
use Rattle.step.specs.Step.{effect, effect_in}
use Rattle.step.specs.declared.Done.{Done}

-- an event of a kind that has no answer buffer
pub record Bufferless (kind : Kind) (e : Event) : Type 0 where
  pub kind_is : kind_of e ≡ kind
  pub has_none : event_room e ≡ 0
  pub needs_none : least_event_room e ≡ 0

-- an event that changes the phase alone
abbrev pub ChangesPhase : Event → Type 0
ChangesPhase = Bufferless move

-- an event that changes the children
abbrev pub ChangesChildren : Event → Type 0
ChangesChildren = Bufferless tunnel

-- whatever a step may return on a line is what an event comes to at a time
abbrev pub IsStep : (Record → ℕ → Result Done Refusal → Type 0) → Event → ℕ → Type 0
IsStep post e time = (line : Record) (r : Result Done Refusal) → post line time r → effect_in (line_of line) r [] [] ≡ effect e time (line_of line)
