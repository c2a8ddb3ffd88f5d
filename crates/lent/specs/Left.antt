-- What is left of a lent record, and what is told of the step on it.
use Rattle.std.specs.Prelude.{ℕ, List, ◌≡◌, Result, Ok, Err}
use Rattle.record.specs.Line.{line_of}
use Rattle.record.specs.declared.Record.{Record}
use Rattle.refusal.specs.Numbers.{number_in}
use Rattle.refusal.specs.declared.Refusal.{Refusal}
use Rattle.rules.specs.declared.Action.{Action}
use Rattle.step.specs.Step.{Effect}
use Rattle.step.specs.declared.Done.{Done}

-- a record is as it was where the step is refused, and else what the step leaves; the action is told
abbrev pub Leaves : Result Done Refusal → Record → Record → Result Action Refusal → Type 0
Leaves (Err e) old new told = (new ≡ old) × (told ≡ Err e)
Leaves (Ok d) old new told = (new ≡ d.line) × (told ≡ Ok d.action)

-- the action that is told, nothing where the step is refused
abbrev pub action_told : Result Action Refusal → Action
action_told (Err e) = Action.Nothing
action_told (Ok a) = a

-- what is told of a step and what it left, with the octets of the part and the answer buffer
unfoldable pub effect_left : Result Action Refusal → Record → List ℕ → List ℕ → Effect
effect_left told line part buffer = record { refusal = number_in told; line = line_of line; action = action_told told; part = part; buffer = buffer }
