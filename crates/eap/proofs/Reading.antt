-- What a packet that was read tells of its octets.
use Prim.Native.Nat.{ℕ, ◌+◌, ◌≤◌}
use mathlib.Core.Bool.{Bool, true, false, cond, ◌&&◌}
use mathlib.Core.List.{List}
use mathlib.Core.Path.{◌≡◌, refl}
use native.Mathlib.Omega.{arith}
use Rattle.std.specs.Prelude.{None, Some}
use lib.Dec.{leb, eqb}
use lib.ListN.{length}
use borrow.Author.Tests.{leb-true, eqb-true, ne_eqb}
use Rattle.octets.specs.Digits.{field}
use Rattle.octets.specs.Part.{part}
use Rattle.octets.proofs.Search.{and_left, and_right}
use Rattle.parameters.specs.Parameters.{well_formed}
use Rattle.eap.specs.Packet.{code, identifier, length_field, message, fits, is_expanded, is_message, is_nas, is_parameters, is_success, is_nas_request, is_nas_response, nas_place, read_packet}
use Rattle.eap.specs.Branch.{response_of}
use Rattle.eap.specs.declared.Packet.TheVariants.{Start, NasRequest, Success, NasResponse, Stop}
use Rattle.eap.proofs.Blocks.{fits_within}
use Rattle.eap.proofs.Headers.{Expanded, expanded_facts, nas_response}

module _ (l : List ℕ) where
  -- a packet read as a NAS request is one, and its fields are those of the packet
  pub request_read : (i at n : ℕ) → Some (NasRequest i at n) ≡ read_packet l → (is_nas_request l ≡ true) × (at ≡ 16) × (n ≡ field l 14 2)
  unfolding read_packet
  request_read i at n e = go (is_success l) (is_message 1 1 l) (is_nas_request l) (is_nas_response l) (is_message 2 4 l) e
    where
      go : (a b c d f : Bool)
          → Some (NasRequest i at n)
          ≡ cond a (Some (Success (identifier l))) (cond b (Some (Start (identifier l))) (cond c (Some (NasRequest (identifier l) 16 (field l 14 2)))
          (cond d (Some (NasResponse (identifier l) 16 (field l 14 2) (nas_place l + 2) (field l (nas_place l) 2))) (cond f (Some (Stop (identifier l))) None))))
          → (c ≡ true) × (at ≡ 16) × (n ≡ field l 14 2)
      go true b c d f e = (cc, cc, cc)
      go false true c d f e = (cc, cc, cc)
      go false false true d f e = (refl, cc, cc)
      go false false false true f e = (cc, cc, cc)
      go false false false false true e = (cc, cc, cc)
      go false false false false false e = (cc, cc, cc)

  -- a packet read as a NAS response is one, and its fields are those of the packet
  pub response_read : (i p m at n : ℕ) → Some (NasResponse i p m at n) ≡ read_packet l
      → (is_nas_response l ≡ true) × (i ≡ identifier l) × (p ≡ 16) × (m ≡ field l 14 2) × (at ≡ nas_place l + 2) × (n ≡ field l (nas_place l) 2)
  unfolding read_packet
  response_read i p m at n e = go (is_success l) (is_message 1 1 l) (is_nas_request l) (is_nas_response l) (is_message 2 4 l) e
    where
      go : (a b c d f : Bool)
          → Some (NasResponse i p m at n)
          ≡ cond a (Some (Success (identifier l))) (cond b (Some (Start (identifier l))) (cond c (Some (NasRequest (identifier l) 16 (field l 14 2)))
          (cond d (Some (NasResponse (identifier l) 16 (field l 14 2) (nas_place l + 2) (field l (nas_place l) 2))) (cond f (Some (Stop (identifier l))) None))))
          → (d ≡ true) × (i ≡ identifier l) × (p ≡ 16) × (m ≡ field l 14 2) × (at ≡ nas_place l + 2) × (n ≡ field l (nas_place l) 2)
      go true b c d f e = (cc, cc, cc, cc, cc, cc)
      go false true c d f e = (cc, cc, cc, cc, cc, cc)
      go false false true d f e = (cc, cc, cc, cc, cc, cc)
      go false false false true f e = (refl, cc, cc, cc, cc, cc)
      go false false false false true e = (cc, cc, cc, cc, cc, cc)
      go false false false false false e = (cc, cc, cc, cc, cc, cc)

  -- what NAS behind a place is
  pub nas_facts : (at : ℕ) → is_nas l at ≡ true → (at + 2 + field l at 2 ≤ length l) × (1 ≤ field l at 2) × (field l at 2 ≤ 2048)
  unfolding is_nas
  nas_facts at e =
      let rest = and_left (fits l at && leb 1 (field l at 2)) (leb (field l at 2) 2048) e in (
        fits_within l at (and_left (fits l at) (leb 1 (field l at 2)) rest),
        leb-true _ _ (and_right (fits l at) (leb 1 (field l at 2)) rest),
        leb-true _ _ (and_right (fits l at && leb 1 (field l at 2)) (leb (field l at 2) 2048) e),
      )

  -- what AN-parameters behind a place are
  pub parameters_facts : (at : ℕ) → is_parameters l at ≡ true
      → (at + 2 + field l at 2 ≤ length l) × (field l at 2 ≤ 1024) × (well_formed (part l (at + 2) (field l at 2)) ≡ true)
  unfolding is_parameters
  parameters_facts at e =
      let rest = and_left (fits l at && leb (field l at 2) 1024) (well_formed (part l (at + 2) (field l at 2))) e in (
        fits_within l at (and_left (fits l at) (leb (field l at 2) 1024) rest),
        leb-true _ _ (and_right (fits l at) (leb (field l at 2) 1024) rest),
        and_right (fits l at && leb (field l at 2) 1024) (well_formed (part l (at + 2) (field l at 2))) e,
      )

  -- NAS that was read lies within the packet
  pub request_within : (i at n : ℕ) → Some (NasRequest i at n) ≡ read_packet l → at + n ≤ length l
  unfolding is_nas_request
  request_within i at n e =
      let r = request_read i at n e in
      let nas = nas_facts 14 (and_right (is_message 1 2 l) (is_nas l 14) r.0) in
      omega arith

-- an EAP-5G packet of a code with a message
pub record Header (l : List ℕ) (c m : ℕ) : Type 0 where
  pub expanded : Expanded l
  pub code_is : code l ≡ c
  pub message_is : message l ≡ m

pub header_facts : (l : List ℕ) (c m : ℕ) → is_message c m l ≡ true → Header l c m
unfolding is_message
header_facts l c m e =
    let coded = and_left (is_expanded l && eqb (code l) c) (eqb (message l) m) e in
    record {
      expanded = expanded_facts l (and_left (is_expanded l) (eqb (code l) c) coded);
      code_is = eqb-true _ _ (and_right (is_expanded l) (eqb (code l) c) coded);
      message_is = eqb-true _ _ (and_right (is_expanded l && eqb (code l) c) (eqb (message l) m) e);
    }

-- what a packet is read as, by the tests that it passes
module _ (l : List ℕ) where
  -- an EAP-5G packet has more octets than Success
  not_success : (c m : ℕ) → is_message c m l ≡ true → is_success l ≡ false
  unfolding is_success
  not_success c m e = simp (ne_eqb (length l) 4 (λ q. omega (arith, q, (header_facts l c m e).expanded.enough)))

  pub start_is : is_message 1 1 l ≡ true → Some (Start (identifier l)) ≡ read_packet l
  unfolding read_packet
  start_is e = simp (not_success 1 1 e, e)

  pub success_is : is_success l ≡ true → Some (Success (identifier l)) ≡ read_packet l
  unfolding read_packet
  success_is e = rw e

  -- Success has its identifier
  pub success_long : is_success l ≡ true → 4 ≤ length l
  unfolding is_success
  success_long e =
      let four = eqb-true (length l) 4 (and_left (eqb (length l) 4) (eqb (code l) 3) (and_left (eqb (length l) 4 && eqb (code l) 3) (eqb (length_field l) 4) e)) in
      omega arith

  -- a NAS request has its NAS length
  pub request_long : is_nas_request l ≡ true → 16 ≤ length l
  unfolding is_nas_request
  request_long e =
      let nas = nas_facts l 14 (and_right (is_message 1 2 l) (is_nas l 14) e) in
      omega arith

  pub request_is : is_message 1 1 l ≡ false → is_nas_request l ≡ true → Some (NasRequest (identifier l) 16 (field l 14 2)) ≡ read_packet l
  unfolding read_packet is_nas_request
  request_is no_start e = simp (not_success 1 2 (and_left (is_message 1 2 l) (is_nas l 14) e), no_start, e)

  pub response_is : is_message 2 2 l ≡ true → response_of l ≡ read_packet l
  unfolding is_message
  response_is e =
      let h = header_facts l 2 2 e in
      nas_response l (λ q. omega (arith, q, h.expanded.enough)) (and_left (is_expanded l) (eqb (code l) 2) (and_left (is_expanded l && eqb (code l) 2) (eqb (message l) 2) e))
      h.code_is h.message_is
