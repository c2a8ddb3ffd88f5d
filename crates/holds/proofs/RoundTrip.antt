-- Writing and reading holds undo each other.
use Prim.Native.Nat.{ℕ, ◌+◌, ◌-◌, ◌*◌, ◌^◌, ◌≤◌, ◌<◌}
use mathlib.Core.Bool.{true, ◌&&◌}
use mathlib.Core.List.{List}
use mathlib.Core.Path.{◌≡◌, refl, sym}
use native.Mathlib.Omega.{arith}
use lib.Dec.{leb, ltb}
use lib.ListN.{length}
use borrow.Author.Tests.{leb-true, ltb-true, le-leb, lt-ltb, ne_eqb}
use Rattle.octets.specs.Digits.{be, field}
use Rattle.octets.specs.Laws.{below}
use Rattle.octets.specs.Part.{part, zeros_at}
use Rattle.octets.specs.Search.{all, all_of}
use Rattle.octets.proofs.Elements.{padded_back, padded_count, padded_octets}
use Rattle.octets.proofs.Fields.{field_below, follow, number_back}
use Rattle.octets.proofs.Octets.{Octets, joins, be_octets, row_octets}
use Rattle.octets.proofs.Rows.{row_passes}
use Rattle.octets.proofs.Search.{all_each, and_left, and_right, and_true, either}
use Rattle.octets.proofs.Stands.{Stands, before, behind, says}
use Rattle.address.specs.declared.End.{End}
use Rattle.address.specs.declared.End.TheVariants.{At, Never}
use Rattle.address.specs.declared.Hold.{Hold}
use Rattle.addresses.specs.Addresses.{address_from, address_octets, is_address}
use Rattle.addresses.specs.Laws.{address_storable}
use Rattle.addresses.proofs.RoundTrip as Addresses
use Rattle.addresses.proofs.Widths.{address_wide}
use Rattle.holds.specs.Holds.{end_number, end_of, has_address, hold_from, hold_in, hold_octets, holds_from, holds_octets, holds_written}
use Rattle.holds.specs.Laws.{end_storable, hold_storable}
use Rattle.holds.proofs.Widths.{hold_wide}

-- an end and its number say each other
number_small : (e : End) → end_storable e ≡ true → end_number e < 256 ^ 5
unfolding end_storable end_number
number_small (At t) h = ltb-true t (256 ^ 5) (and_right (ltb 0 t) (ltb t (256 ^ 5)) h)
number_small Never h = omega arith

end_back : (e : End) → end_storable e ≡ true → end_of (end_number e) ≡ e
unfolding end_storable end_number end_of
end_back (At t) h =
    let after : 0 < t = ltb-true 0 t (and_left (ltb 0 t) (ltb t (256 ^ 5)) h) in
    rw (ne_eqb t 0 (λ z. omega arith))
end_back Never h = refl

end_number_lem : (t : ℕ) → end_number (end_of t) ≡ t
unfolding end_number end_of
end_number_lem t = either t 0 (λ e. rw e) (λ n. rw (ne_eqb t 0 n))

end_storable_lem : (t : ℕ) → t < 256 ^ 5 → end_storable (end_of t) ≡ true
unfolding end_storable end_of
end_storable_lem t h = either t 0 (λ e. rw e) (λ n. rw (ne_eqb t 0 n) (and_true (ltb 0 t) (ltb t (256 ^ 5)) (lt-ltb 0 t (omega arith)) (lt-ltb t (256 ^ 5) h)))

-- one hold
module _ (l : List ℕ) (at : ℕ) where
  hold_back : (h : Hold) (r : List ℕ) → hold_storable h ≡ true → Stands l at (hold_octets h) r → (hold_from l at ≡ h) × (is_address l at ≡ true)
  unfolding hold_octets hold_from hold_storable
  hold_back h r k e =
      let a = h.address in
      let t = end_number h.end in
      let fits = and_right (address_storable a) (end_storable h.end) k in
      let address = Addresses.address_back l at a (and_left (address_storable a) (end_storable h.end) k) (before (address_octets a) (be 5 t) e) in
      let end : field l (at + 17) 5 ≡ t = says 5 t (number_small h.end fits) (behind (address_octets a) (be 5 t) 17 (address_wide a) e) in
      (rw (address.0, end, end_back h.end fits), address.1)

  module _ (octets : all_of (below 256) l ≡ true) (fits : at + 22 ≤ length l) where
    hold_octets_lem : is_address l at ≡ true → hold_octets (hold_from l at) ≡ part l at 22
    unfolding hold_octets hold_from
    hold_octets_lem w = follow l at 17 5 (Addresses.address_octets_lem l octets at (omega arith) w) (number_back l octets (at + 17) 5 _ (omega arith) (sym (end_number_lem (field l (at + 17) 5))))

    hold_storable_lem : hold_storable (hold_from l at) ≡ true
    unfolding hold_storable hold_from
    hold_storable_lem =
        let t = field l (at + 17) 5 in
        and_true (address_storable (address_from l at)) (end_storable (end_of t)) (Addresses.storable l at octets (omega arith)) (end_storable_lem t (field_below l octets (at + 17) 5 (omega arith)))

-- the holds of a line
pub octet_count : (hs : List Hold) → length hs ≤ 8 → length (holds_octets hs) ≡ 176
unfolding holds_octets
octet_count hs few = padded_count hold_octets 22 hold_wide 176 8 refl hs few

pub read_back : (l : List ℕ) (at : ℕ) (hs : List Hold) → length hs ≤ 8 → all_of hold_storable hs ≡ true → part l at 176 ≡ holds_octets hs
    → (holds_from l at (length hs) ≡ hs) × (holds_written l at (length hs) ≡ true)
unfolding holds_from holds_octets holds_written hold_in has_address
read_back l at hs few h e =
    let back = padded_back hold_octets 22 hold_wide l at hold_storable (hold_in l at) (has_address l at) (λ i x r. hold_back l (at + 22 * i) x r) 176 hs h e in
    (back.0, rw (le-leb (length hs) 8 few, back.1, back.2))

pub write_back : (l : List ℕ) (at n : ℕ) → all_of (below 256) l ≡ true → at + 176 ≤ length l → holds_written l at n ≡ true
    → part l at 176 ≡ holds_octets (holds_from l at n)
unfolding holds_from holds_octets holds_written hold_in has_address
write_back l at n octets fits w =
    let counted = leb n 8 && all n (has_address l at) in
    let none = zeros_at l (at + 22 * n) (176 - 22 * n) in
    let few : n ≤ 8 = leb-true n 8 (and_left (leb n 8) (all n (has_address l at)) (and_left counted none w)) in
    let each = all_each n (has_address l at) (and_right (leb n 8) (all n (has_address l at)) (and_left counted none w)) in
    sym (padded_octets hold_octets 22 hold_wide l at (hold_in l at) 176 n (omega arith) (λ k h. hold_octets_lem l (at + 22 * k) octets (omega arith) (each k h)) (and_right counted none w))

pub storable : (l : List ℕ) (at n : ℕ) → all_of (below 256) l ≡ true → at + 22 * n ≤ length l → all_of hold_storable (holds_from l at n) ≡ true
unfolding holds_from hold_in
storable l at n octets fits = row_passes (hold_in l at) hold_storable 0 n (λ k h. hold_storable_lem l (at + 22 * k) octets (omega arith))

-- every octet of the holds is one
pub octets : (hs : List Hold) → Octets (holds_octets hs)
unfolding holds_octets hold_octets
octets hs = row_octets hold_octets (λ h. joins (Addresses.octets h.address) (be_octets 5 (end_number h.end))) 176 hs
