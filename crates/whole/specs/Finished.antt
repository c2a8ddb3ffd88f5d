-- What a choice leaves of a whole line.
use Rattle.std.specs.Prelude.{ℕ, List, [], ◌≡◌}
use Rattle.octets.specs.Part.{padded}
use Rattle.record.specs.Line.{line_of}
use Rattle.rules.specs.Answer.{numbers_of, part_named, PartWithin}
use Rattle.rules.specs.Life.{Outcome}
use Rattle.step.specs.declared.Done.{Done}

-- the line and the action are those of an outcome: its part is the one that the action names, and the name buffer holds what is written and zeros after it
pub record Finished (d : Done) (o : Outcome) (text name : List ℕ) (room : ℕ) : Type 0 where
  pub line_is : line_of d.line ≡ o.line
  pub action_is : d.action ≡ o.action
  pub part_is : part_named (numbers_of d.action) text name [] ≡ o.part
  pub part_within : PartWithin (numbers_of d.action) text name []
  pub name_is : name ≡ padded room o.written
