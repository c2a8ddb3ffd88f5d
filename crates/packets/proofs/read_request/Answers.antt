-- `packets::read_request` meets its contract: the numbers are those of the packet that passed its tests.
use Prim.Native.Nat.{ℕ}
use mathlib.Core.Path.{sym, ap, ap₂, ◌∙◌}
use native.Mathlib.Omega.{arith}
use Rattle.std.specs.Prelude.{Some}
use Rattle.octets.specs.Part.{padded, zeros}
use Rattle.eap.specs.Packet.{identifier, is_request, packet_numbers}
use Rattle.eap.specs.declared.Packet.TheVariants.{Start, NasRequest, Success}
use Rattle.eap.proofs.Reading.{header_facts, request_is, request_long, start_is, success_is, success_long}
use Rattle.packets.specs.Packets.{fields_only, packet_returned, read_request, refused_by, request_answer}
use Rattle.packets.proofs.Turned.{no_request}
use Rattle.packets.proofs.read_request.Goals as goal

pub get-requires : goal.get-requires
get-requires c =
    let h = (header_facts _ 1 1 (sym c.is_message.ensures ∙ c.if-is_message.true)).expanded.enough in
    (omega arith, omega arith)

pub returns-then-is_message : goal.returns-then-is_message
unfolding read_request request_answer fields_only packet_returned is_request packet_numbers padded zeros identifier
returns-then-is_message c =
    ap request_answer (ap (λ (i : ℕ). Some (Start i)) c.get.ensures.0 ∙ start_is _ (sym c.is_message.ensures ∙ c.if-is_message.true))

pub get-requires-then-is_nas_request : goal.get-requires-then-is_nas_request
get-requires-then-is_nas_request c =
    let h = request_long _ (sym c.is_nas_request.ensures ∙ c.if-is_nas_request.true) in
    (omega arith, omega arith)

pub get-requires-then-is_nas_request-2 : goal.get-requires-then-is_nas_request-2
get-requires-then-is_nas_request-2 c =
    let h = request_long _ (sym c.is_nas_request.ensures ∙ c.if-is_nas_request.true) in
    (omega arith, omega arith)

pub returns-then-is_nas_request : goal.returns-then-is_nas_request
unfolding read_request request_answer fields_only packet_returned is_request packet_numbers identifier
returns-then-is_nas_request c =
    ap request_answer
    (ap₂ (λ (i n : ℕ). Some (NasRequest i 16 n)) c.get-then-is_nas_request.ensures.0 c.get-then-is_nas_request-2.ensures.0
    ∙ request_is _ (sym c.is_message.ensures ∙ c.if-is_message.false) (sym c.is_nas_request.ensures ∙ c.if-is_nas_request.true))

pub get-requires-then-is_success : goal.get-requires-then-is_success
get-requires-then-is_success c =
    let h = success_long _ (sym c.is_success.ensures ∙ c.if-is_success.true) in
    (omega arith, omega arith)

pub returns-then-is_success : goal.returns-then-is_success
unfolding read_request request_answer fields_only packet_returned is_request packet_numbers padded zeros identifier
returns-then-is_success c =
    ap request_answer
    (ap (λ (i : ℕ). Some (Success i)) c.get-then-is_success.ensures.0 ∙ success_is _ (sym c.is_success.ensures ∙ c.if-is_success.true))

pub returns : goal.returns
unfolding refused_by packet_returned zeros
returns c =
    no_request _ (sym c.is_message.ensures ∙ c.if-is_message.false) (sym c.is_nas_request.ensures ∙ c.if-is_nas_request.false)
    (sym c.is_success.ensures ∙ c.if-is_success.false)
