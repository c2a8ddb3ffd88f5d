-- Packets that a call turns away, by the tests that they fail.
use Prim.Native.Nat.{ℕ, ◌+◌}
use mathlib.Core.Bool.{Bool, true, false, cond}
use mathlib.Core.List.{List}
use mathlib.Core.Path.{◌≡◌, refl}
use Rattle.std.specs.Prelude.{None, Some}
use Rattle.octets.specs.Digits.{field}
use Rattle.eap.specs.Packet.{identifier, is_message, is_nas_request, is_nas_response, is_request, is_success, nas_place, read_packet}
use Rattle.eap.specs.declared.Packet.TheVariants.{Start, NasRequest, Success, NasResponse, Stop}
use Rattle.packets.specs.Packets.{read_request, read_response, refused_by, request_answer, response_answer}

-- reading a request: none of its three kinds
pub no_request : (l : List ℕ) → is_message 1 1 l ≡ false → is_nas_request l ≡ false → is_success l ≡ false → refused_by 9 0 ≡ read_request l
unfolding read_request read_packet request_answer is_request
no_request l start nas success = rw (success, start, nas) (go (is_nas_response l) (is_message 2 4 l))
  where
    go : (d f : Bool)
        → refused_by 9 0
        ≡ request_answer
        (cond d (Some (NasResponse (identifier l) 16 (field l 14 2) (nas_place l + 2) (field l (nas_place l) 2))) (cond f (Some (Stop (identifier l))) None))
    go true f = refl
    go false true = refl
    go false false = refl

-- reading a response: another message
pub no_message : (l : List ℕ) → is_message 2 2 l ≡ false → refused_by 9 0 ≡ read_response l
unfolding read_response read_packet is_nas_response response_answer
no_message l other = rw other (go (is_success l) (is_message 1 1 l) (is_nas_request l) (is_message 2 4 l))
  where
    go : (a b c f : Bool)
        → refused_by 9 0
        ≡ response_answer
        (cond a (Some (Success (identifier l)))
        (cond b (Some (Start (identifier l))) (cond c (Some (NasRequest (identifier l) 16 (field l 14 2))) (cond f (Some (Stop (identifier l))) None))))
    go true b c f = refl
    go false true c f = refl
    go false false true f = refl
    go false false false true = refl
    go false false false false = refl
