-- The calls without a table on examples.
use Rattle.std.specs.Prelude.{ℕ, List, [], ◌∷◌, ◌++◌, map, ◌≡◌, refl}
use Rattle.octets.specs.Digits as Digits
use Rattle.octets.specs.Part as Part
use Rattle.octets.specs.Part.{zeros}
use Rattle.octets.specs.Refusal as Refusal
use Rattle.timer.specs.Timer as Timer
use Rattle.parameters.specs.Parameters as Parameters
use Rattle.eap.specs.Packet as Packet
use Rattle.response.specs.Response as Response
use Rattle.response.specs.Response.{response}
use Rattle.packets.specs.Packets.{PacketAnswer, fields_only, is_broken, packet_returned, parameter_numbers, parameter_refusal, read_parameter, read_request, read_response, read_timer, request_answer, response_answer, refused_by, unless_refused, write_response}

-- what a call answers, and its refusal number, six numbers and buffer as the documents have them
pub record PacketExample : Type 0 where
  pub gives : PacketAnswer
  pub says : List ℕ

unfoldable pub packets : List PacketExample
packets =
    -- a NAS request, Success of four octets and not of five
    record { gives = read_request (1 ∷ 8 ∷ 0 ∷ 17 ∷ 254 ∷ 0 ∷ 40 ∷ 175 ∷ 0 ∷ 0 ∷ 0 ∷ 3 ∷ 2 ∷ 0 ∷ 0 ∷ 1 ∷ 0x7E ∷ []); says = 0 ∷ 2 ∷ 8 ∷ 0 ∷ 0 ∷ 16 ∷ 1 ∷ [] }
    ∷ record { gives = read_request (3 ∷ 7 ∷ 0 ∷ 4 ∷ []); says = 0 ∷ 3 ∷ 7 ∷ 0 ∷ 0 ∷ 0 ∷ 0 ∷ [] }
    ∷ record { gives = read_request (3 ∷ 7 ∷ 0 ∷ 5 ∷ 0 ∷ []); says = 9 ∷ zeros 6 }
    -- a NAS response with AN-parameters, which is no request, and Stop, which is no response that is read
    ∷ record { gives = read_response (response 7 (1 ∷ 1 ∷ 9 ∷ []) (0x7E ∷ [])); says = 0 ∷ 2 ∷ 7 ∷ 16 ∷ 3 ∷ 21 ∷ 1 ∷ [] }
    ∷ record { gives = read_request (response 7 (1 ∷ 1 ∷ 9 ∷ []) (0x7E ∷ [])); says = 9 ∷ zeros 6 }
    ∷ record { gives = read_response (2 ∷ 7 ∷ 0 ∷ 14 ∷ 254 ∷ 0 ∷ 40 ∷ 175 ∷ 0 ∷ 0 ∷ 0 ∷ 3 ∷ 4 ∷ 0 ∷ []); says = 9 ∷ zeros 6 }
    -- a buffer one octet short; an identifier of 255, and of 256 with a block that is not well formed
    ∷ record { gives = write_response 7 [] (0x7E ∷ []) 3089; says = 3 ∷ zeros 3095 }
    ∷ record {
      gives = write_response 255 [] (0x7E ∷ []) 3090;
      says = (0 ∷ 2 ∷ 255 ∷ 16 ∷ 0 ∷ 18 ∷ 1 ∷ []) ++ (2 ∷ 255 ∷ 0 ∷ 19 ∷ 254 ∷ 0 ∷ 40 ∷ 175 ∷ 0 ∷ 0 ∷ 0 ∷ 3 ∷ 2 ∷ 0 ∷ 0 ∷ 0 ∷ 0 ∷ 1 ∷ 0x7E ∷ []) ++ zeros 3071;
    }
    ∷ record { gives = write_response 256 (1 ∷ []) (0x7E ∷ []) 3090; says = 8 ∷ zeros 3096 }
    -- an AN-parameter, the end behind it, one octet alone, a value that runs past the end, a place past the end, an empty block
    ∷ record { gives = read_parameter (1 ∷ 1 ∷ 9 ∷ []) 0; says = 0 ∷ 1 ∷ 1 ∷ 2 ∷ 1 ∷ 3 ∷ 0 ∷ [] }
    ∷ record { gives = read_parameter (1 ∷ 1 ∷ 9 ∷ []) 3; says = zeros 7 }
    ∷ record { gives = read_parameter (1 ∷ 1 ∷ 9 ∷ []) 2; says = 9 ∷ zeros 6 }
    ∷ record { gives = read_parameter (1 ∷ 2 ∷ 9 ∷ []) 0; says = 9 ∷ zeros 6 }
    ∷ record { gives = read_parameter (1 ∷ 1 ∷ 9 ∷ []) 4; says = 8 ∷ zeros 6 }
    ∷ record { gives = read_parameter [] 0; says = zeros 7 }
    -- a block of 1,024 octets and of 1,025
    ∷ record { gives = read_parameter (zeros 1024) 1022; says = 0 ∷ 1 ∷ 0 ∷ 1024 ∷ 0 ∷ 1024 ∷ 0 ∷ [] }
    ∷ record { gives = read_parameter (zeros 1025) 0; says = 8 ∷ zeros 6 }
    -- a timer octet of 255 and of 256
    ∷ record { gives = read_timer 255; says = 0 ∷ 2 ∷ 0 ∷ 0 ∷ 0 ∷ 0 ∷ 0 ∷ [] }
    ∷ record { gives = read_timer 256; says = 8 ∷ zeros 6 }
    ∷ []

unfoldable pub packet_got : PacketExample → List ℕ
packet_got e = e.gives.refusal ∷ e.gives.fields ++ e.gives.buffer

unfoldable pub packet_said : PacketExample → List ℕ
packet_said e = e.says

pub packets_computed : map packet_got packets ≡ map packet_said packets
unfolding packets packet_got packet_said Response.written_packet Digits.digits Digits.number_from Digits.number Digits.be Digits.field Part.part Part.zeros Part.padded Refusal.refusal Timer.unit_seconds Timer.timer_of Timer.timer_numbers Parameters.well_formed_in Parameters.well_formed Parameters.size Parameters.parameter_at Packet.code Packet.identifier Packet.length_field Packet.type_field Packet.vendor Packet.vendor_type Packet.message Packet.is_success Packet.is_expanded Packet.is_message Packet.fits Packet.is_nas Packet.is_parameters Packet.is_nas_request Packet.nas_place Packet.is_nas_response Packet.read_packet Packet.is_request Packet.packet_numbers Response.header Response.block Response.response Response.lent_out_of_range Response.out_of_range Response.write_refusal fields_only is_broken packet_returned parameter_numbers parameter_refusal read_parameter read_request read_response read_timer request_answer response_answer refused_by unless_refused write_response
packets_computed = refl
