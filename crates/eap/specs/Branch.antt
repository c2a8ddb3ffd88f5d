-- What the reader's function for NAS responses answers, in the terms of `Packet`.
use Rattle.std.specs.Prelude.{ℕ, ◌+◌, cond, ◌&&◌, List, Option, None, Some}
use Rattle.octets.specs.Digits.{field}
use Rattle.eap.specs.Packet.{identifier, is_nas, is_parameters, nas_place}
use Rattle.eap.specs.declared.Packet.{Packet}
use Rattle.eap.specs.declared.Packet.TheVariants.{NasResponse}

-- what goes on behind the header of a NAS response
unfoldable pub response_of : List ℕ → Option Packet
response_of l =
    cond (is_parameters l 14 && is_nas l (nas_place l))
    (Some (NasResponse (identifier l) 16 (field l 14 2) (nas_place l + 2) (field l (nas_place l) 2))) None
