-- Writing and reading NAS responses undo each other.
use Prim.Native.Nat.{ℕ, ◌+◌, ◌≤◌}
use mathlib.Core.Bool.{true, ◌&&◌}
use mathlib.Core.List.{List, ◌++◌}
use mathlib.Core.Path.{◌≡◌, refl, sym, ap, ap₂, ◌∙◌}
use native.Mathlib.Omega.{arith}
use lib.ListN.{length, take, drop}
use lib.Seq.{take-append_seam, drop-append_seam, drop-drop, take-length}
use Rattle.octets.specs.Digits.{be, digits, field, number, number_from}
use Rattle.octets.specs.Laws.{below}
use Rattle.octets.specs.Part.{part}
use Rattle.octets.specs.Search.{all_of}
use Rattle.octets.proofs.Digits.{number_digits}
use Rattle.octets.proofs.Fields.{be_field, field_below, part_join, part_whole}
use Rattle.std.specs.Prelude.{Some}
use Rattle.octets.proofs.Parts.{length_part}
use Rattle.octets.proofs.Search.{and_left, and_right}
use Rattle.eap.specs.Branch.{response_of}
use Rattle.response.specs.Laws.{Reads}
use Rattle.eap.specs.Packet.{code, identifier, length_field, type_field, vendor, vendor_type, message, spare, is_expanded, is_parameters, is_nas, nas_place, is_message, is_nas_response, read_packet}
use Rattle.parameters.specs.Parameters.{well_formed}
use Rattle.response.specs.Response.{block, header, response, write_refusal, written_packet}
use Rattle.eap.specs.declared.Packet.TheVariants.{NasResponse}
use Rattle.eap.proofs.Blocks.{within, nas_whole, parameters_are}
use Rattle.eap.proofs.Headers.{by_vendor_type, nas_response}
use Rattle.response.proofs.Writing.{Accepted, InRange, length_response, not_out, by_parameters}
use Rattle.eap.proofs.Reading.{Header, header_facts, nas_facts, parameters_facts, response_read}

-- a response, field by field
module _ (i : ℕ) (p n : List ℕ) (room : ℕ) (a : Accepted i p n room) where
  abbrev P : List ℕ
  P = response i p n

  size : length P ≡ 18 + length p + length n
  size = length_response i p n

  code_is : code P ≡ 2
  unfolding response header block be digits code field part number number_from
  code_is = refl

  identifier_is : identifier P ≡ i
  unfolding response header block be digits identifier field part number number_from
  identifier_is = number_digits 256 1 i (omega (arith, a.octet))

  length_is : length_field P ≡ length P
  unfolding response header block be digits length_field field part number number_from
  length_is =
      number_digits 256 2 (18 + length p + length n) (omega (arith, a.fits.parameters_short, a.fits.nas_short)) ∙ sym size

  message_is : message P ≡ 2
  unfolding response header block be digits message field part number number_from
  message_is = refl

  expanded : is_expanded P ≡ true
  unfolding response header block be digits type_field vendor vendor_type field part number number_from
  expanded = by_vendor_type P (omega (arith, size)) length_is refl refl

  parameters_length : field P 14 2 ≡ length p
  unfolding response header block be digits field part number number_from
  parameters_length = number_digits 256 2 (length p) (omega (arith, a.fits.parameters_short))

  behind_header : drop 16 P ≡ p ++ block n
  unfolding response header block be digits
  behind_header = refl

  parameters_are_p : part P 16 (length p) ≡ p
  unfolding part
  parameters_are_p = ap (take (length p)) behind_header ∙ take-append_seam p (block n)

  behind_parameters : drop (16 + length p) P ≡ block n
  behind_parameters = sym (drop-drop (length p) 16 P) ∙ ap (drop (length p)) behind_header ∙ drop-append_seam p (block n)

  nas_length_is : field P (16 + length p) 2 ≡ length n
  unfolding field part number number_from block be digits
  nas_length_is =
      ap (λ (l : List ℕ). number 256 (take 2 l)) behind_parameters ∙ number_digits 256 2 (length n) (omega (arith, a.fits.nas_short))

  nas_is_n : part P (18 + length p) (length n) ≡ n
  unfolding part block be digits
  nas_is_n =
      let e : 18 + length p ≡ 16 + length p + 2 = omega arith in
      ap (λ (k : ℕ). take (length n) (drop k P)) e
      ∙ ap (take (length n)) (sym (drop-drop 2 (16 + length p) P) ∙ ap (drop 2) behind_parameters) ∙ take-length n

  place : nas_place P ≡ 16 + length p
  unfolding nas_place
  place = ap (λ (k : ℕ). 16 + k) parameters_length

  parameters_pass : is_parameters P 14 ≡ true
  parameters_pass =
      parameters_are P 14 (within P 14 (omega (arith, size)) (omega (arith, size, parameters_length))) (omega (arith, parameters_length, a.fits.parameters_short))
      ∙ ap well_formed (ap (part P 16) parameters_length ∙ parameters_are_p) ∙ a.ends

  nas_passes : is_nas P (16 + length p) ≡ true
  nas_passes =
      nas_whole P (16 + length p) (within P (16 + length p) (omega (arith, size)) (omega (arith, size, nas_length_is)))
      (omega (arith, nas_length_is, a.fits.nas_some)) (omega (arith, nas_length_is, a.fits.nas_short))

  is_read : read_packet P ≡ Some (NasResponse i 16 (length p) (18 + length p) (length n))
  unfolding response_of
  is_read =
      let e : 16 + length p + 2 ≡ 18 + length p = omega arith in
      sym (nas_response P (λ q. let z = size in omega arith) expanded code_is message_is)
      ∙ simp (parameters_pass, place, nas_passes, identifier_is, parameters_length, nas_length_is, e)

  pub write_read : Reads P i p n
  unfolding written_packet
  write_read = record { is = is_read; parameters_are = parameters_are_p; nas_is = nas_is_n }

-- octets that are read as a NAS response, field by field
module _ (l : List ℕ) (octets : all_of (below 256) l ≡ true) (r : is_nas_response l ≡ true) where
  abbrev m : ℕ
  m = field l 14 2

  abbrev n : ℕ
  n = field l (nas_place l) 2

  h : Header l 2 2
  unfolding is_nas_response
  h = header_facts l 2 2 (and_left (is_message 2 2 l) (is_parameters l 14) (and_left (is_message 2 2 l && is_parameters l 14) (is_nas l (nas_place l)) r))

  parameters : (16 + m ≤ length l) × (m ≤ 1024) × (well_formed (part l 16 m) ≡ true)
  unfolding is_nas_response
  parameters = parameters_facts l 14 (and_right (is_message 2 2 l) (is_parameters l 14) (and_left (is_message 2 2 l && is_parameters l 14) (is_nas l (nas_place l)) r))

  nas : (18 + m + n ≤ length l) × (1 ≤ n) × (n ≤ 2048)
  unfolding is_nas_response nas_place
  nas =
      let f = nas_facts l (nas_place l) (and_right (is_message 2 2 l && is_parameters l 14) (is_nas l (nas_place l)) r) in
      (omega arith, f.1, f.2)

  parameters_size : length (part l 16 m) ≡ m
  parameters_size = length_part l 16 m parameters.0

  nas_size : length (part l (nas_place l + 2) n) ≡ n
  unfolding nas_place
  nas_size = length_part l (nas_place l + 2) n (omega (arith, nas.0))

  -- what was read is in range
  not_refused : write_refusal (identifier l) (part l 16 m) (part l (nas_place l + 2) n) 3090 ≡ 0
  unfolding identifier
  not_refused =
      let fits : InRange (part l 16 m) (part l (nas_place l + 2) n) =
      record { parameters_short = rw parameters_size parameters.1; nas_some = rw nas_size nas.1; nas_short = rw nas_size nas.2 } in
      sym (by_parameters (identifier l) (part l 16 m) (part l (nas_place l + 2) n) 3090 (omega arith) (omega (arith, field_below l octets 1 1 (omega (arith, h.expanded.enough))))
      (not_out (part l 16 m) (part l (nas_place l + 2) n) fits) parameters.2)

  -- octets that follow one another in the packet
  follow : (at a b : ℕ) {vs ws : List ℕ} → vs ≡ part l at a → ws ≡ part l (at + a) b → vs ++ ws ≡ part l at (a + b)
  follow at a b e f = ap₂ (λ (x y : List ℕ). x ++ y) e f ∙ part_join l at a b

  -- a field within the header is written as its octets
  back : (at w x : ℕ) → at + w ≤ 14 → x ≡ field l at w → be w x ≡ part l at w
  back at w x k e = ap (be w) e ∙ be_field l octets at w (omega (arith, h.expanded.enough))

  module _ (plain : spare l ≡ 0) (exact : nas_place l + 2 + n ≡ length l) where
    total : 18 + length (part l 16 m) + length (part l (nas_place l + 2) n) ≡ length l
    unfolding nas_place
    total = omega (arith, parameters_size, nas_size, exact)

    header_back : header 2 (identifier l) (18 + length (part l 16 m) + length (part l (nas_place l + 2) n)) 2 ≡ part l 0 14
    unfolding header code identifier length_field type_field vendor vendor_type message spare
    header_back =
        let f₂ = follow 0 1 1 (back 0 1 2 (omega arith) (sym h.code_is)) (back 1 1 (identifier l) (omega arith) refl) in
        let f₃ = follow 0 2 2 f₂ (back 2 2 (18 + length (part l 16 m) + length (part l (nas_place l + 2) n)) (omega arith) (total ∙ sym h.expanded.whole)) in
        let f₄ = follow 0 4 1 f₃ (back 4 1 254 (omega arith) (sym h.expanded.type)) in
        let f₅ = follow 0 5 3 f₄ (back 5 3 10415 (omega arith) (sym h.expanded.from)) in
        let f₆ = follow 0 8 4 f₅ (back 8 4 3 (omega arith) (sym h.expanded.method)) in
        let f₇ = follow 0 12 1 f₆ (back 12 1 2 (omega arith) (sym h.message_is)) in
        follow 0 13 1 f₇ (back 13 1 0 (omega arith) (sym plain))

    parameters_back : block (part l 16 m) ≡ part l 14 (2 + m)
    unfolding block
    parameters_back =
        follow 14 2 m (ap (be 2) parameters_size ∙ be_field l octets 14 2 (omega (arith, parameters.0))) refl

    nas_back : block (part l (nas_place l + 2) n) ≡ part l (nas_place l) (2 + n)
    unfolding block
    nas_back = follow (nas_place l) 2 n (ap (be 2) nas_size ∙ be_field l octets (nas_place l) 2 (omega (arith, exact))) refl

    written_back : response (identifier l) (part l 16 m) (part l (nas_place l + 2) n) ≡ l
    unfolding response nas_place
    written_back =
        let at : nas_place l ≡ 0 + (14 + (2 + m)) = omega arith in
        let all : 14 + (2 + m) + (2 + n) ≡ length l = omega (arith, exact) in
        follow 0 (14 + (2 + m)) (2 + n) (follow 0 14 (2 + m) header_back parameters_back) (nas_back ∙ ap (λ (k : ℕ). part l k (2 + n)) at)
        ∙ ap (part l 0) all ∙ part_whole l

pub read_write : (l : List ℕ) → all_of (below 256) l ≡ true → (i p m at n : ℕ) → read_packet l ≡ Some (NasResponse i p m at n)
    → (write_refusal i (part l p m) (part l at n) 3090 ≡ 0) × (spare l ≡ 0 → at + n ≡ length l → response i (part l p m) (part l at n) ≡ l)
read_write l octets i p m at n e =
    let r = response_read l i p m at n (sym e) in
    rw (r.1, r.2, r.3, r.4, r.5) (not_refused l octets r.0, written_back l octets r.0)
