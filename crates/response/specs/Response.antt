-- NAS responses as they are written: spare is 0 and nothing follows NAS.
use Rattle.std.specs.Prelude.{ℕ, ◌+◌, Bool, cond, not, ◌||◌, List, [], ◌∷◌, ◌++◌, ltb, eqb, length}
use Rattle.octets.specs.Digits.{be, most_octet}
use Rattle.octets.specs.Part.{zeros, padded}
use Rattle.octets.specs.Refusal.{◌when◌, refusal}
use Rattle.parameters.specs.Parameters.{most_parameters, well_formed}
use Rattle.eap.specs.Packet.{most_nas}
use Rattle.eap.specs.declared.Packet.{Packet}
use Rattle.eap.specs.declared.Packet.TheVariants.{NasResponse}

-- a reply is written to a buffer of at least so many octets
abbrev pub reply_room : ℕ
reply_room = 3090

-- the first 14 octets: code, identifier, length, type, vendor, vendor type, message, spare
unfoldable pub header : ℕ → ℕ → ℕ → ℕ → List ℕ
header code identifier size message =
    be 1 code ++ be 1 identifier ++ be 2 size ++ be 1 254 ++ be 3 10415 ++ be 4 3 ++ be 1 message ++ be 1 0

-- octets behind their length
unfoldable pub block : List ℕ → List ℕ
block l = be 2 (length l) ++ l

-- the octets of a NAS response
unfoldable pub response : ℕ → List ℕ → List ℕ → List ℕ
response identifier parameters nas =
    header 2 identifier (18 + length parameters + length nas) 2 ++ block parameters ++ block nas

-- AN-parameters start behind the 14 first octets and their own length
abbrev pub parameters_start : ℕ
parameters_start = 16

-- NAS starts behind so many octets of AN-parameters and its own length
abbrev pub nas_start : ℕ → ℕ
nas_start n = 18 + n

-- the packet that is written, with where its AN-parameters and its NAS start and how long they are
unfoldable pub written_packet : ℕ → List ℕ → List ℕ → Packet
written_packet identifier parameters nas = NasResponse identifier parameters_start (length parameters) (nas_start (length parameters)) (length nas)

-- AN-parameters over 1,024 octets, NAS of none or over 2,048
unfoldable pub lent_out_of_range : List ℕ → List ℕ → Bool
lent_out_of_range parameters nas = ltb most_parameters (length parameters) || ltb (length nas) 1 || ltb most_nas (length nas)

-- an identifier of more than one octet, or lent octets out of their range
unfoldable pub out_of_range : ℕ → List ℕ → List ℕ → Bool
out_of_range identifier parameters nas = ltb most_octet identifier || lent_out_of_range parameters nas

-- the refusal of a NAS response for a buffer of so many octets, 0 where it is written
unfoldable pub write_refusal : ℕ → List ℕ → List ℕ → ℕ → ℕ
write_refusal identifier parameters nas room =
    refusal
    ((3 when ltb room reply_room) ∷ (8 when out_of_range identifier parameters nas) ∷ (9 when not (well_formed parameters)) ∷ [])

-- the buffer afterwards: the response and zeros, or zeros alone where it is refused
unfoldable pub written : ℕ → List ℕ → List ℕ → ℕ → List ℕ
written identifier parameters nas room =
    cond (eqb (write_refusal identifier parameters nas room) 0) (padded room (response identifier parameters nas)) (zeros room)
