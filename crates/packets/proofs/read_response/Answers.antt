-- `packets::read_response` meets its contract: every packet but a NAS response is turned away.
use mathlib.Core.Path.{sym, ap, ◌∙◌}
use borrow.Author.Rules.{rules}
use Rattle.octets.specs.Part.{zeros}
use Rattle.std.specs.Prelude.{Some}
use Rattle.eap.specs.Packet.{packet_numbers}
use Rattle.eap.specs.declared.Packet.{Packet}
use Rattle.eap.proofs.Reading.{response_is}
use Rattle.packets.specs.Packets.{fields_only, packet_returned, read_response, refused_by, response_answer}
use Rattle.packets.proofs.Turned.{no_message}
use Rattle.packets.proofs.read_response.Goals as goal

pub returns-then-not-is_message : goal.returns-then-not-is_message
unfolding refused_by packet_returned zeros
returns-then-not-is_message c = no_message _ (sym c.is_message.ensures ∙ c.if-not-is_message.true)

pub returns-in_default : goal.returns-in_default
unfolding read_response response_answer refused_by packet_returned zeros
returns-in_default c =
    let read = c.read_response.ensures ∙ response_is _ (sym c.is_message.ensures ∙ c.if-not-is_message.false) in
    search (rules, read)

pub returns-in_default-2 : goal.returns-in_default-2
unfolding read_response response_answer refused_by packet_returned zeros
returns-in_default-2 c =
    ap response_answer (sym c.in_default.is ∙ c.read_response.ensures ∙ response_is _ (sym c.is_message.ensures ∙ c.if-not-is_message.false))

pub returns : goal.returns
unfolding read_response response_answer fields_only packet_returned packet_numbers
returns c =
    ap (λ (p : Packet). response_answer (Some p)) (sym c.in-Some-NasResponse.field-0-is)
    ∙ ap response_answer (sym c.in-Some-NasResponse.is ∙ c.read_response.ensures ∙ response_is _ (sym c.is_message.ensures ∙ c.if-not-is_message.false))
