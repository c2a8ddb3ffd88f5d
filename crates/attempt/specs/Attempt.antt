-- What a choice and the address answer come to, as the code answers it: a phase and an action.
use Rattle.std.specs.Prelude.{ℕ, Bool, List, [], ◌≡◌, Result, Ok, Err}
use Rattle.gateway.specs.declared.Found.{Found}
use Rattle.octets.specs.Part.{padded}
use Rattle.octets.specs.Row.{only}
use Rattle.address.specs.Address.{held_addresses, stands}
use Rattle.address.specs.declared.Address.{Address}
use Rattle.address.specs.declared.Hold.{Hold}
use Rattle.holds.specs.Holds.{ends_after}
use Rattle.record.specs.Changes.{in_phase, with_holds}
use Rattle.record.specs.Line.{Line, line_of}
use Rattle.refusal.specs.Numbers.{number_of}
use Rattle.refusal.specs.declared.Refusal.{Refusal}
use Rattle.step.specs.Step.{Effect}
use Rattle.step.specs.declared.Done.{Done}
use Rattle.rules.specs.Answer.{numbers_of, part_named, PartWithin}
use Rattle.rules.specs.Life.{Outcome, gateway_found, goes}
use Rattle.rules.specs.declared.Action.{Action}
use Rattle.selection.specs.declared.Choice.{Choice}
use Rattle.attempt.specs.declared.Move.{Move}

-- what S5 found is the phase and the action, on every line
abbrev pub Comes : Move → Found → Type 0
Comes r f = (x : Line) → gateway_found x f ≡ goes x r.phase r.action

-- the phase and the action are those of an outcome on a line: its part is the one that the action names, and the name buffer holds what is written and zeros after it
pub record Says (r : Move) (x : Line) (o : Outcome) (text name : List ℕ) (room : ℕ) : Type 0 where
  pub line_is : o.line ≡ in_phase x r.phase
  pub action_is : r.action ≡ o.action
  pub part_is : part_named (numbers_of r.action) text name [] ≡ o.part
  pub part_within : PartWithin (numbers_of r.action) text name []
  pub name_is : name ≡ padded room o.written

-- of a choice that is an address it is told whether that address is held
abbrev pub HoldTold : Bool → Choice → List Hold → Type 0
HoldTold held c hs = (a : Address) → c ≡ Choice.Address a → held ≡ stands a (held_addresses hs)

-- what the code's answer on a line comes to on the line with holds: refused it leaves them all, accepted those in force
abbrev pub answered_on : Line → Result Done Refusal → ℕ → List Hold → Effect
answered_on x (Err r) time hs = record { refusal = number_of r; line = with_holds x hs; action = Action.Nothing; part = []; buffer = [] }
answered_on x (Ok d) time hs = record { refusal = 0; line = with_holds (line_of d.line) (only (ends_after time) hs); action = d.action; part = []; buffer = [] }
