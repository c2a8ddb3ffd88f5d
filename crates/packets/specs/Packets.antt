-- The calls without a table, in the order of the interface: what each answers to any numbers and octets.
use Rattle.std.specs.Prelude.{ℕ, zero, suc, Bool, true, false, cond, ◌||◌, List, [], ◌∷◌, ltb, length, Option, None, Some, Result, Ok, Err}
use Rattle.octets.specs.Digits.{most_octet}
use Rattle.octets.specs.Part.{padded, zeros}
use Rattle.octets.specs.Refusal.{◌when◌, refusal}
use Rattle.refusal.specs.Numbers.{number_in}
use Rattle.refusal.specs.declared.Refusal.{Refusal}
use Rattle.parameters.specs.Parameters.{most_parameters, parameter_at}
use Rattle.parameters.specs.declared.Parameter.{Parameter}
use Rattle.parameters.specs.declared.Broken.{Broken}
use Rattle.eap.specs.Packet.{is_request, packet_numbers, read_packet}
use Rattle.eap.specs.declared.Packet.{Packet}
use Rattle.eap.specs.declared.Packet.TheVariants.{Start, NasRequest, Success, NasResponse, Stop}
use Rattle.response.specs.Response.{response, write_refusal, written_packet}
use Rattle.timer.specs.Timer.{timer_numbers, timer_of}

-- the refusal number or 0, the six numbers, the packet buffer whole, which is empty where the call has none
pub record PacketAnswer : Type 0 where
  pub refusal : ℕ
  pub fields : List ℕ
  pub buffer : List ℕ

-- what a call returned: its number, the six numbers, and its buffer
unfoldable pub packet_returned : ℕ → List ℕ → List ℕ → PacketAnswer
packet_returned n fields buffer = record { refusal = n; fields = fields; buffer = buffer }

-- the six numbers of what a call comes to, zeros of a refusal
abbrev pub fields_in : Result (List ℕ) Refusal → List ℕ
fields_in (Ok fields) = fields
fields_in (Err r) = zeros 6

-- what a call returned that came to six numbers or was refused, and its buffer
abbrev pub told : Result (List ℕ) Refusal → List ℕ → PacketAnswer
told r buffer = packet_returned (number_in r) (fields_in r) buffer

-- a refused call leaves six zeros, and zeros in a buffer of so many octets
unfoldable pub refused_by : ℕ → ℕ → PacketAnswer
refused_by n room = packet_returned n (zeros 6) (zeros room)

-- an accepted call that has no buffer
unfoldable pub fields_only : List ℕ → PacketAnswer
fields_only fields = packet_returned 0 fields []

-- a call is refused by its number, or answers where that is 0
unfoldable pub unless_refused : ℕ → ℕ → PacketAnswer → PacketAnswer
unless_refused zero room answer = answer
unless_refused (suc n) room answer = refused_by (suc n) room

-- Start, NAS requests and Success are read as requests, and every other packet is 9
unfoldable pub request_answer : Option Packet → PacketAnswer
request_answer (Some p) = cond (is_request p) (fields_only (packet_numbers p)) (refused_by 9 0)
request_answer None = refused_by 9 0

-- a request is read from any octets
unfoldable pub read_request : List ℕ → PacketAnswer
read_request packet = request_answer (read_packet packet)

-- a NAS response is read as a response, and every other packet, Stop too, is 9
unfoldable pub response_answer : Option Packet → PacketAnswer
response_answer (Some (NasResponse i p m at n)) = fields_only (packet_numbers (NasResponse i p m at n))
response_answer (Some (Start i)) = refused_by 9 0
response_answer (Some (NasRequest i at n)) = refused_by 9 0
response_answer (Some (Success i)) = refused_by 9 0
response_answer (Some (Stop i)) = refused_by 9 0
response_answer None = refused_by 9 0

-- a response is read from any octets
unfoldable pub read_response : List ℕ → PacketAnswer
read_response packet = response_answer (read_packet packet)

-- a response is written to a buffer of so many octets: 3, 8 or 9, or the packet's numbers and the buffer with zeros behind the packet
unfoldable pub write_response : ℕ → List ℕ → List ℕ → ℕ → PacketAnswer
write_response identifier parameters nas room =
    unless_refused (write_refusal identifier parameters nas room) room
    (packet_returned 0 (packet_numbers (written_packet identifier parameters nas)) (padded room (response identifier parameters nas)))

-- no whole AN-parameter and not the end: one that runs past the end, or a place past it
unfoldable pub is_broken : Result (Option Parameter) Broken → Bool
is_broken (Ok p) = false
is_broken (Err e) = true

-- an AN-parameter in six numbers: 1, its type, where its value starts, how long that is, the next place, 0; six zeros at the end of the block; a broken one is refused before
unfoldable pub parameter_numbers : Result (Option Parameter) Broken → List ℕ
parameter_numbers (Ok (Some p)) = 1 ∷ p.kind ∷ p.start ∷ p.length ∷ p.next ∷ 0 ∷ []
parameter_numbers (Ok None) = zeros 6
parameter_numbers (Err e) = zeros 6

-- a block over 1,024 octets and a place past the end are 8, a parameter that runs past the end is 9
unfoldable pub parameter_refusal : List ℕ → ℕ → ℕ
parameter_refusal parameters at =
    refusal
    ((8 when (ltb most_parameters (length parameters) || ltb (length parameters) at)) ∷ (9 when is_broken (parameter_at parameters at)) ∷ [])

-- the AN-parameter at a place is read, and no other of its block
unfoldable pub read_parameter : List ℕ → ℕ → PacketAnswer
read_parameter parameters at =
    unless_refused (parameter_refusal parameters at) 0 (fields_only (parameter_numbers (parameter_at parameters at)))

-- a timer octet is read; a number above 255 is 8
unfoldable pub read_timer : ℕ → PacketAnswer
read_timer octet = cond (ltb most_octet octet) (refused_by 8 0) (fields_only (timer_numbers (timer_of octet)))
