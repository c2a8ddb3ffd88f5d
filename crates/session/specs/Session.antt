-- What a packet comes to on the line that a call finds, where it is due and where it is not.
use Rattle.std.specs.Prelude.{true, false, [], ◌≡◌, Some, Result, Ok, Err}
use Rattle.eap.specs.declared.Packet.{Packet}
use Rattle.record.specs.Line.{Line, line_of}
use Rattle.refusal.specs.declared.Refusal.{Refusal}
use Rattle.rules.specs.Life.{packet_taken}
use Rattle.rules.specs.Refusals.{is_due}
use Rattle.step.specs.declared.Done.{Done}

-- a packet that is due leaves the line and the action of its outcome, which do not depend on its octets
pub record Due (done : Done) (found : Line) (p : Packet) : Type 0 where
  pub due : is_due (Some p) found.phase ≡ true
  pub line_is : line_of done.line ≡ (packet_taken found [] (Some p)).line
  pub action_is : done.action ≡ (packet_taken found [] (Some p)).action

-- a packet that is not due is refused
pub record NotDue (r : Refusal) (found : Line) (p : Packet) : Type 0 where
  pub not_due : is_due (Some p) found.phase ≡ false
  pub refused : r ≡ Refusal.Phase

-- what a step comes to with a packet on the line that a call finds
abbrev pub Takes : Result Done Refusal → Line → Packet → Type 0
Takes (Ok done) found p = Due done found p
Takes (Err r) found p = NotDue r found p
