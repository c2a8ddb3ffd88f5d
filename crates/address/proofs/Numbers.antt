-- Addresses as a version and a number, over both versions.
use Prim.Native.Nat.{ℕ, ◌+◌, ◌*◌, ◌/◌, ◌%◌, ◌^◌, ◌≤◌, ◌<◌}
use mathlib.Core.Bool.{Bool, true, false, cond, ◌&&◌}
use mathlib.Core.Path.{◌≡◌, refl, ap₂}
use native.Mathlib.Nat.{div-add-mod'}
use native.Mathlib.Omega.{arith}
use lib.Arith.{digits_div, digits_mod}
use lib.Dec.{eqb}
use borrow.Author.Tests.{eqb-true, eq-eqb, ne_eqb}
use Rattle.octets.proofs.Digits.{halves_same}
use Rattle.octets.proofs.Search.{and_left, and_right, and_true, either, eqb_turned, or_other}
use Rattle.address.specs.declared.Address.{Address}
use Rattle.address.specs.declared.Address.TheVariants.{V4, V6}
use Rattle.address.specs.Address.{address_of, is_version, number_of, same_address, version_of, width_of}

-- an IP version is one of two
by_version : {A : Type 0} (v : ℕ) → is_version v ≡ true → (v ≡ 4 → A) → (v ≡ 6 → A) → A
unfolding is_version
by_version v h f g = either v 4 f (λ n. g (eqb-true v 6 (or_other (eqb v 4) (eqb v 6) h (ne_eqb v 4 n))))

pub is_version_lem : (a : Address) → is_version (version_of a) ≡ true
unfolding is_version version_of
is_version_lem (V4 x) = refl
is_version_lem (V6 h l) = refl

-- a version fits an octet
pub version_small : (v : ℕ) → is_version v ≡ true → v < 256
version_small v h = by_version v h (λ e. omega arith) (λ e. omega arith)

-- an address has at most 16 octets
pub width_most : (v : ℕ) → width_of v ≤ 16
unfolding width_of
width_most v = go (eqb v 4)
  where
    go : (t : Bool) → cond t 4 16 ≤ 16
    go true = omega arith
    go false = omega arith

-- the version is kept
pub version_kept : (v x : ℕ) → is_version v ≡ true → version_of (address_of v x) ≡ v
unfolding version_of address_of
version_kept v x h = by_version v h (λ e. rw e) (λ e. rw e)

-- a number is kept whole, whatever the version
pub number_kept : (v x : ℕ) → number_of (address_of v x) ≡ x
unfolding number_of address_of
number_kept v x = go (eqb v 4)
  where
    go : (t : Bool) → number_of (cond t (V4 x) (V6 (x / 2 ^ 64) (x % 2 ^ 64))) ≡ x
    go true = refl
    go false = div-add-mod' x (2 ^ 64)

-- the width of an address is that of the version which it was made for
pub width_kept : (v x : ℕ) → width_of (version_of (address_of v x)) ≡ width_of v
unfolding width_of version_of address_of
width_kept v x = go (eqb v 4)
  where
    go : (t : Bool) → width_of (version_of (cond t (V4 x) (V6 (x / 2 ^ 64) (x % 2 ^ 64)))) ≡ cond {A = ℕ} t 4 16
    go true = refl
    go false = refl

-- two halves are one number of version 6
pub halves_kept : (h l : ℕ) → l < 2 ^ 64 → address_of 6 (h * 2 ^ 64 + l) ≡ V6 h l
unfolding address_of
halves_kept h l k = ap₂ V6 (digits_div h k) (digits_mod h k)

-- halves are compared as one number
pub halves_alike : (h l i m : ℕ) → l < 2 ^ 64 → m < 2 ^ 64 → eqb h i && eqb l m ≡ same_address (V6 h l) (V6 i m)
unfolding same_address version_of number_of
halves_alike h l i m p q = halves_same (2 ^ 64) h l i m p q

pub same_self : (a : Address) → same_address a a ≡ true
unfolding same_address
same_self a = and_true (eqb (version_of a) (version_of a)) (eqb (number_of a) (number_of a)) (eq-eqb (version_of a) (version_of a) refl) (eq-eqb (number_of a) (number_of a) refl)

-- the test of equal addresses goes both ways
pub same_turned : (a b : Address) → same_address a b ≡ same_address b a
unfolding same_address
same_turned a b = ap₂ (λ (s t : Bool). s && t) (eqb_turned (version_of a) (version_of b)) (eqb_turned (number_of a) (number_of b))

-- the same address has the same version and the same number
pub same_parts : (a b : Address) → same_address a b ≡ true → (version_of a ≡ version_of b) × (number_of a ≡ number_of b)
unfolding same_address
same_parts a b e = (
  eqb-true (version_of a) (version_of b) (and_left (eqb (version_of a) (version_of b)) (eqb (number_of a) (number_of b)) e),
  eqb-true (number_of a) (number_of b) (and_right (eqb (version_of a) (version_of b)) (eqb (number_of a) (number_of b)) e),
)
