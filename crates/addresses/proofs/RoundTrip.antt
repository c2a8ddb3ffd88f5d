-- Writing and reading addresses undo each other, over both versions.
use Prim.Native.Nat.{ℕ, ◌+◌, ◌-◌, ◌/◌, ◌%◌, ◌^◌, ◌≤◌, ◌<◌}
use mathlib.Core.Bool.{true}
use mathlib.Core.List.{List, ◌++◌}
use mathlib.Core.Path.{◌≡◌, refl, sym, ap, ap₂, ◌∙◌}
use native.Mathlib.Nat.{mod-lt}
use native.Mathlib.Omega.{arith}
use lib.Dec.{eqb, ltb}
use lib.ListN.{length}
use borrow.Author.Tests.{ltb-true, lt-ltb}
use Rattle.octets.specs.Digits.{be, field}
use Rattle.octets.specs.Laws.{below}
use Rattle.octets.specs.Part.{part, zeros, zeros_at}
use Rattle.octets.specs.Search.{all_of}
use Rattle.octets.proofs.Digits.{length_digits}
use Rattle.octets.proofs.Fields.{field_below, follow, number_back, zeros_back}
use Rattle.octets.proofs.Octets.{Octets, joins, be_octets, zeros_octets}
use Rattle.octets.proofs.Search.{and_left, and_right, and_true, cond_passes}
use Rattle.octets.proofs.Stands.{Stands, from_part, before, behind, says, zeros_stand}
use Rattle.address.specs.Address.{address_of, is_version, number_of, same_address, version_of, width_of}
use Rattle.address.specs.declared.Address.{Address}
use Rattle.address.specs.declared.Address.TheVariants.{V4, V6}
use Rattle.address.proofs.Numbers.{halves_kept, is_version_lem, number_kept, same_parts, version_kept, version_small, width_kept, width_most}
use Rattle.addresses.specs.Addresses.{address_from, address_octets, is_address, version_from}
use Rattle.addresses.specs.Laws.{address_storable, halved}
use Rattle.addresses.proofs.Widths.{front_wide}

-- an address in halves is the one of its version and its number
address_kept : (a : Address) → halved a ≡ true → address_of (version_of a) (number_of a) ≡ a
unfolding halved address_of version_of number_of
address_kept (V4 x) h = refl
address_kept (V6 x y) h = halves_kept x y (ltb-true y (2 ^ 64) h)

-- an address that is made of a number is in halves
made_halved : (v x : ℕ) → halved (address_of v x) ≡ true
unfolding address_of halved
made_halved v x = cond_passes halved (eqb v 4) (V4 x) (V6 (x / 2 ^ 64) (x % 2 ^ 64)) refl (lt-ltb (x % 2 ^ 64) (2 ^ 64) (mod-lt x (omega arith)))

-- a number of its version's width makes an address in range
pub number_storable : (v x : ℕ) → x < 256 ^ width_of v → address_storable (address_of v x) ≡ true
unfolding address_storable
number_storable v x h =
    and_true (ltb (number_of (address_of v x)) (256 ^ width_of (version_of (address_of v x)))) (halved (address_of v x))
    (rw (number_kept v x, width_kept v x) (lt-ltb x (256 ^ width_of v) h)) (made_halved v x)

module _ (a : Address) (h : address_storable a ≡ true) where
  number_small : number_of a < 256 ^ width_of (version_of a)
  unfolding address_storable
  number_small = ltb-true (number_of a) (256 ^ width_of (version_of a)) (and_left (ltb (number_of a) (256 ^ width_of (version_of a))) (halved a) h)

  storable_kept : address_of (version_of a) (number_of a) ≡ a
  unfolding address_storable
  storable_kept = address_kept a (and_right (ltb (number_of a) (256 ^ width_of (version_of a))) (halved a) h)

pub address_back : (l : List ℕ) (at : ℕ) {r : List ℕ} (a : Address) → address_storable a ≡ true → Stands l at (address_octets a) r
    → (address_from l at ≡ a) × (is_address l at ≡ true)
unfolding address_octets address_from is_address version_from be
address_back l at a h e =
    let v = version_of a in
    let n = width_of v in
    let x = number_of a in
    let two = before (be 1 v ++ be n x) (zeros (16 - n)) e in
    let version : field l at 1 ≡ v = says 1 v (version_small v (is_version_lem a)) (before (be 1 v) (be n x) two) in
    let number : field l (at + 1) n ≡ x = says n x (number_small a h) (behind (be 1 v) (be n x) 1 (length_digits 256 1 v) two) in
    let none : zeros_at l (at + (1 + n)) (16 - n) ≡ true = zeros_stand (16 - n) (behind (be 1 v ++ be n x) (zeros (16 - n)) (1 + n) (front_wide a) e) in
    (rw (version, number) (storable_kept a h), rw (version, none, is_version_lem a))

pub read_back : (l : List ℕ) (at : ℕ) (a : Address) → address_storable a ≡ true → part l at 17 ≡ address_octets a
    → (address_from l at ≡ a) × (is_address l at ≡ true)
read_back l at a h e = address_back l at a h (from_part l at 17 (address_octets a) e)

pub address_octets_lem : (l : List ℕ) → all_of (below 256) l ≡ true → (at : ℕ) → at + 17 ≤ length l → is_address l at ≡ true
    → address_octets (address_from l at) ≡ part l at 17
unfolding address_octets address_from is_address version_from
address_octets_lem l octets at fits w =
    let v = field l at 1 in
    let n = width_of v in
    let x = field l (at + 1) n in
    let most = width_most v in
    let known = and_left (is_version v) (zeros_at l (at + (1 + n)) (16 - n)) w in
    let none = and_right (is_version v) (zeros_at l (at + (1 + n)) (16 - n)) w in
    let two = follow l at 1 n (number_back l octets at 1 v (omega arith) refl) (number_back l octets (at + 1) n x (omega arith) refl) in
    let size : 1 + n + (16 - n) ≡ 17 = omega arith in
    rw (version_kept v x known, number_kept v x) (follow l at (1 + n) (16 - n) two (zeros_back l (at + (1 + n)) (16 - n) none) ∙ ap (part l at) size)

pub write_back : (l : List ℕ) (at : ℕ) → all_of (below 256) l ≡ true → at + 17 ≤ length l → is_address l at ≡ true
    → part l at 17 ≡ address_octets (address_from l at)
write_back l at octets fits w = sym (address_octets_lem l octets at fits w)

pub storable : (l : List ℕ) (at : ℕ) → all_of (below 256) l ≡ true → at + 17 ≤ length l → address_storable (address_from l at) ≡ true
unfolding address_from
storable l at octets fits =
    let v = version_from l at in
    number_storable v (field l (at + 1) (width_of v)) (field_below l octets (at + 1) (width_of v) (omega (arith, width_most v)))

-- every octet of an address is one
pub octets : (a : Address) → Octets (address_octets a)
unfolding address_octets
octets a =
    let n = width_of (version_of a) in
    joins (joins (be_octets 1 (version_of a)) (be_octets n (number_of a))) (zeros_octets (16 - n))

pub same_equal : (a b : Address) → address_storable a ≡ true → address_storable b ≡ true → same_address a b ≡ true → a ≡ b
same_equal a b h k e =
    let parts = same_parts a b e in
    sym (storable_kept a h) ∙ ap₂ address_of parts.0 parts.1 ∙ storable_kept b k
