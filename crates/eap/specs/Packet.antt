-- EAP-5G packets, read field by field in the order of RFC 3748 and TS 24.502 clause 9.3.2.
use Rattle.std.specs.Prelude.{ℕ, ◌+◌, Bool, true, false, cond, ◌&&◌, List, [], ◌∷◌, leb, eqb, length, Option, None, Some}
use Rattle.octets.specs.Digits.{field}
use Rattle.octets.specs.Part.{padded, part}
use Rattle.parameters.specs.Parameters.{most_parameters, well_formed}
use Rattle.eap.specs.declared.Packet.{Packet}
use Rattle.eap.specs.declared.Packet.TheVariants.{Start, NasRequest, Success, NasResponse, Stop}

-- 1 is a request, 2 a response, 3 Success
unfoldable pub code : List ℕ → ℕ
code l = field l 0 1

unfoldable pub identifier : List ℕ → ℕ
identifier l = field l 1 1

unfoldable pub length_field : List ℕ → ℕ
length_field l = field l 2 2

-- 254 is the expanded type
unfoldable pub type_field : List ℕ → ℕ
type_field l = field l 4 1

-- 10415 is 3GPP
unfoldable pub vendor : List ℕ → ℕ
vendor l = field l 5 3

-- 3 is EAP-5G
unfoldable pub vendor_type : List ℕ → ℕ
vendor_type l = field l 8 4

-- 1 is Start, 2 NAS, 4 Stop
unfoldable pub message : List ℕ → ℕ
message l = field l 12 1

-- ignored in reading
unfoldable pub spare : List ℕ → ℕ
spare l = field l 13 1

-- Success has exactly four octets
unfoldable pub is_success : List ℕ → Bool
is_success l = eqb (length l) 4 && eqb (code l) 3 && eqb (length_field l) 4

-- an EAP-5G packet of either code: its 14 first octets, with a length field equal to the lent length
unfoldable pub is_expanded : List ℕ → Bool
is_expanded l =
    leb 14 (length l) && eqb (length_field l) (length l) && eqb (type_field l) 254 && eqb (vendor l) 10415 && eqb (vendor_type l) 3

-- an EAP-5G packet of a code with a message
unfoldable pub is_message : ℕ → ℕ → List ℕ → Bool
is_message c m l = is_expanded l && eqb (code l) c && eqb (message l) m

-- the length that stands at a place, and its octets after it, lie within the packet
unfoldable pub fits : List ℕ → ℕ → Bool
fits l at = leb (at + 2) (length l) && leb (at + 2 + field l at 2) (length l)

-- NAS has 1 to 2,048 octets
abbrev pub most_nas : ℕ
most_nas = 2048

-- NAS behind its length at a place
unfoldable pub is_nas : List ℕ → ℕ → Bool
is_nas l at = fits l at && leb 1 (field l at 2) && leb (field l at 2) most_nas

-- AN-parameters behind their length at a place, ending exactly
unfoldable pub is_parameters : List ℕ → ℕ → Bool
is_parameters l at = fits l at && leb (field l at 2) most_parameters && well_formed (part l (at + 2) (field l at 2))

-- a NAS request goes on with NAS
unfoldable pub is_nas_request : List ℕ → Bool
is_nas_request l = is_message 1 2 l && is_nas l 14

-- where the length of a NAS response's NAS stands
unfoldable pub nas_place : List ℕ → ℕ
nas_place l = 16 + field l 14 2

-- a NAS response goes on with AN-parameters, then NAS
unfoldable pub is_nas_response : List ℕ → Bool
is_nas_response l = is_message 2 2 l && is_parameters l 14 && is_nas l (nas_place l)

-- what a packet is, with its identifier and where its AN-parameters and NAS stand and how long they are; octets after these are skipped
unfoldable pub read_packet : List ℕ → Option Packet
read_packet l =
    cond (is_success l) (Some (Success (identifier l)))
    (cond (is_message 1 1 l) (Some (Start (identifier l)))
    (cond (is_nas_request l) (Some (NasRequest (identifier l) 16 (field l 14 2)))
    (cond (is_nas_response l) (Some (NasResponse (identifier l) 16 (field l 14 2) (nas_place l + 2) (field l (nas_place l) 2)))
    (cond (is_message 2 4 l) (Some (Stop (identifier l))) None))))

-- what the network sends and the handset reads: Start, NAS requests and Success
unfoldable pub is_request : Packet → Bool
is_request (Start i) = true
is_request (NasRequest i at n) = true
is_request (Success i) = true
is_request (NasResponse i p m at n) = false
is_request (Stop i) = false

-- a packet in six numbers: 1 Start, 2 NAS, 3 Success, 4 Stop; its identifier; where AN-parameters and NAS start and how long they are
unfoldable pub packet_numbers : Packet → List ℕ
packet_numbers (Start i) = padded 6 (1 ∷ i ∷ [])
packet_numbers (NasRequest i at n) = 2 ∷ i ∷ 0 ∷ 0 ∷ at ∷ n ∷ []
packet_numbers (Success i) = padded 6 (3 ∷ i ∷ [])
packet_numbers (NasResponse i p m at n) = 2 ∷ i ∷ p ∷ m ∷ at ∷ n ∷ []
packet_numbers (Stop i) = padded 6 (4 ∷ i ∷ [])
