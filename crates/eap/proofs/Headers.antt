-- What the tests of a packet's first octets come to.
use Prim.Native.Nat.{ℕ, ◌+◌, ◌*◌, ◌^◌, ◌≤◌}
use mathlib.Core.Bool.{true, ◌&&◌}
use mathlib.Core.List.{List, [], ◌∷◌}
use mathlib.Core.Path.{◌≡◌, refl, sym, ap, ap₂, ◌∙◌}
use native.Mathlib.Omega.{arith}
use lib.Dec.{leb, ltb, eqb}
use lib.ListN.{length}
use borrow.Author.Tests.{le-leb, leb-true, ltb-true, eq-eqb, eqb-true, ne_eqb}
use Rattle.octets.specs.Digits.{be, digits, field, low, number, number_from}
use Rattle.octets.specs.Laws.{below}
use Rattle.octets.specs.Part.{part}
use Rattle.octets.specs.Search.{all_of}
use Rattle.octets.proofs.Fields.{be_part, field_halves}
use Rattle.octets.proofs.Parts.{length_part}
use Rattle.octets.proofs.Splices.{field_part}
use Rattle.octets.proofs.Search.{and_left, and_right, either, never_passes}
use Rattle.eap.specs.Packet.{is_success, is_expanded, is_message, is_nas_request, is_nas_response, code, length_field, type_field, vendor, vendor_type, message, read_packet}
use Rattle.eap.specs.Branch.{response_of}

-- the 14 first octets of an EAP-5G packet
pub record Expanded (l : List ℕ) : Type 0 where
  pub enough : 14 ≤ length l
  pub whole : length_field l ≡ length l
  pub type : type_field l ≡ 254
  pub from : vendor l ≡ 10415
  pub method : vendor_type l ≡ 3

pub expanded_facts : (l : List ℕ) → is_expanded l ≡ true → Expanded l
unfolding is_expanded
expanded_facts l h =
    let h₄ = and_left (leb 14 (length l) && eqb (length_field l) (length l) && eqb (type_field l) 254 && eqb (vendor l) 10415) (eqb (vendor_type l) 3) h in
    let h₃ = and_left (leb 14 (length l) && eqb (length_field l) (length l) && eqb (type_field l) 254) (eqb (vendor l) 10415) h₄ in
    let h₂ = and_left (leb 14 (length l) && eqb (length_field l) (length l)) (eqb (type_field l) 254) h₃ in
    record {
      enough = leb-true _ _ (and_left (leb 14 (length l)) (eqb (length_field l) (length l)) h₂);
      whole = eqb-true _ _ (and_right (leb 14 (length l)) (eqb (length_field l) (length l)) h₂);
      type = eqb-true _ _ (and_right (leb 14 (length l) && eqb (length_field l) (length l)) (eqb (type_field l) 254) h₃);
      from = eqb-true _ _ (and_right (leb 14 (length l) && eqb (length_field l) (length l) && eqb (type_field l) 254) (eqb (vendor l) 10415) h₄);
      method = eqb-true _ _ (and_right (leb 14 (length l) && eqb (length_field l) (length l) && eqb (type_field l) 254 && eqb (vendor l) 10415) (eqb (vendor_type l) 3) h);
    }

-- the octets of type, vendor and vendor type
abbrev typed : List ℕ
typed = 254 ∷ 0 ∷ 40 ∷ 175 ∷ 0 ∷ 0 ∷ 0 ∷ 3 ∷ []

-- as many octets that say one number are the same
low_same : (ds es : List ℕ) → length ds ≡ length es → all_of (below 256) ds ≡ true → all_of (below 256) es ≡ true → low ds ≡ low es → ds ≡ es
unfolding low all_of below
low_same [] [] size a b e = refl
low_same [] (x ∷ es) size a b e = absurd (omega (arith, size))
low_same (d ∷ ds) [] size a b e = absurd (omega (arith, size))
low_same (d ∷ ds) (x ∷ es) size a b e =
    let d-short = ltb-true d 256 (and_left (ltb d 256) (all_of (below 256) ds) a) in
    let x-short = ltb-true x 256 (and_left (ltb x 256) (all_of (below 256) es) b) in
    ap₂ (λ (y : ℕ) (ys : List ℕ). y ∷ ys) (omega (arith, e, d-short, x-short))
    (low_same ds es (omega (arith, size)) (and_right (ltb d 256) (all_of (below 256) ds) a) (and_right (ltb x 256) (all_of (below 256) es) b)
    (omega (arith, e, d-short, x-short)))

module _ (l : List ℕ) where
  module _ (enough : 14 ≤ length l) where
    module _ (whole : length_field l ≡ length l) where
      pub by_vendor_type : type_field l ≡ 254 → vendor l ≡ 10415 → is_expanded l ≡ eqb (vendor_type l) 3
      unfolding is_expanded
      by_vendor_type type from =
          simp (le-leb 14 (length l) enough, eq-eqb (length_field l) (length l) whole, eq-eqb (type_field l) 254 type, eq-eqb (vendor l) 10415 from)

      -- type, vendor and vendor type as one number of eight octets
      module _ (octets : all_of (below 256) (part l 4 8) ≡ true) where
        are_typed : Expanded l → part l 4 8 ≡ typed
        unfolding type_field vendor vendor_type be digits
        are_typed f =
            sym (be_part l 4 8 (omega (arith, enough)) octets)
            ∙ ap (be 8)
            (field_halves l 4 1 7 (omega (arith, enough))
            ∙ ap₂ (λ (x y : ℕ). x * 256 ^ 7 + y) f.type (field_halves l 5 3 4 (omega (arith, enough)) ∙ ap₂ (λ (x y : ℕ). x * 256 ^ 4 + y) f.from f.method))

        typed_is : part l 4 8 ≡ typed → is_expanded l ≡ true
        unfolding type_field vendor vendor_type field part number number_from
        typed_is e =
            by_vendor_type (sym (field_part l 4 8 0 1 (omega arith)) ∙ ap (λ (k : List ℕ). field k 0 1) e)
            (sym (field_part l 4 8 1 3 (omega arith)) ∙ ap (λ (k : List ℕ). field k 1 3) e)
            ∙ eq-eqb _ _ (sym (field_part l 4 8 4 4 (omega arith)) ∙ ap (λ (k : List ℕ). field k 4 4) e)

        pub by_word : (w : ℕ) → w ≡ low (part l 4 8) → eqb w 0x0300_0000_AF28_00FE ≡ is_expanded l
        unfolding low all_of below
        by_word w is =
            either w 0x0300_0000_AF28_00FE
            (λ e. eq-eqb _ _ e ∙ sym (typed_is (low_same (part l 4 8) typed (length_part l 4 8 (omega (arith, enough))) octets refl (sym is ∙ e))))
            (λ h. ne_eqb _ _ h ∙ sym (never_passes (is_expanded l) (λ e. h (is ∙ ap low (are_typed (expanded_facts l e))))))

  -- a NAS response by its code and message
  pub nas_response : (length l ≡ 4 → ⊥) → is_expanded l ≡ true → code l ≡ 2 → message l ≡ 2 → response_of l ≡ read_packet l
  unfolding read_packet response_of is_success is_message is_nas_request is_nas_response
  nas_response not-four header response m = simp (ne_eqb (length l) 4 not-four, header, response, m)
