-- What the calls of an attempt share behind their choice.
use Rattle.std.specs.Prelude.{ℕ, List, [], ◌≡◌}
use Rattle.octets.specs.Part.{padded}
use Rattle.rules.specs.Answer.{numbers_of, part_named, PartWithin}
use Rattle.rules.specs.Life.{Outcome}
use Rattle.rules.specs.declared.Action.{Action}
use Rattle.step.specs.Laws.{stored_by}
use Rattle.frame.specs.declared.Entered.{Entered}

-- an outcome is stored and returned: its part is the one that the action names, and the name buffer holds what is written and zeros after it
pub record Finishes (o : Outcome) (r : Entered) (action : Action) (text name : List ℕ) (room : ℕ) (before after : List ℕ) : Type 0 where
  pub action_is : action ≡ o.action
  pub part_is : part_named (numbers_of action) text name [] ≡ o.part
  pub part_within : PartWithin (numbers_of action) text name []
  pub name_is : name ≡ padded room o.written
  pub table_is : after ≡ stored_by 0 r.pair o.line before
