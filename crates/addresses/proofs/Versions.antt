-- What the version at a place decides, and what is written as halves.
use Prim.Native.Nat.{ℕ, ◌+◌, ◌*◌, ◌^◌, ◌≤◌, ◌<◌}
use mathlib.Core.Bool.{true}
use mathlib.Core.List.{List, ◌++◌, append_assoc, append-nil}
use mathlib.Core.Path.{◌≡◌, sym, ap, ap₂, ◌∙◌, subst}
use native.Mathlib.Omega.{arith}
use lib.Arith.{digits_div, digits_mod}
use lib.ListN.{length}
use borrow.Author.Tests.{ne_eqb}
use Rattle.octets.specs.Digits.{be, field}
use Rattle.octets.specs.Part.{part, same, zeros, zeros_at, Wrote}
use Rattle.octets.proofs.Digits.{digits_halves}
use Rattle.octets.proofs.Fields.{field_halves}
use Rattle.address.specs.Address.{address_of, is_version, number_of, version_of, width_of}
use Rattle.address.specs.declared.Address.TheVariants.{V6}
use Rattle.addresses.specs.Addresses.{address_from, address_octets, is_address, version_from}

-- the two halves of the widest number
pub halves : (l : List ℕ) (at : ℕ) → at + 17 ≤ length l → (x y : ℕ) → x ≡ field l (at + 1) 8 → y ≡ field l (at + 9) 8 → field l (at + 1) 16 ≡ x * 2 ^ 64 + y
halves l at fits x y e f =
    let place : at + 1 + 8 ≡ at + 9 = omega arith in
    field_halves l (at + 1) 8 8 (omega arith) ∙ ap₂ (λ (i k : ℕ). i * 2 ^ 64 + field l k 8) (sym e) place ∙ ap (λ (j : ℕ). x * 2 ^ 64 + j) (sym f)

module _ (l : List ℕ) (at v : ℕ) (of : v ≡ version_from l at) where
  pub address_6 : (v ≡ 4 → ⊥) → at + 17 ≤ length l → (x y : ℕ) → x ≡ field l (at + 1) 8 → y ≡ field l (at + 9) 8 → y < 256 ^ 8 → V6 x y ≡ address_from l at
  unfolding address_from address_of width_of
  address_6 h fits x y e f small =
      rw (ne_eqb (version_from l at) 4 (subst (λ (k : ℕ). k ≡ 4 → ⊥) of h), halves l at fits x y e f) (sym (ap₂ V6 (digits_div x small) (digits_mod x small)))

  -- an address of version 6 has no octets behind it
  pub version_6 : v ≡ 6 → true ≡ is_address l at
  unfolding is_address is_version width_of zeros_at same part zeros
  version_6 e = rw (sym of ∙ e)

-- two halves are written as the number that they are
pub halves_wrote : {l m : List ℕ} {at : ℕ} (x y : ℕ) → y < 256 ^ 8 → Wrote l at (be 1 6 ++ be 8 x ++ be 8 y) m → Wrote l at (address_octets (V6 x y)) m
unfolding address_octets version_of number_of width_of be zeros
halves_wrote {l} {m} {at} x y small w =
    subst (λ (o : List ℕ). Wrote l at o m)
    (append_assoc (be 1 6) (be 8 x) (be 8 y) ∙ ap (λ (o : List ℕ). be 1 6 ++ o) (sym (digits_halves 256 8 8 x y small)) ∙ sym (append-nil (be 1 6 ++ be 16 (x * 2 ^ 64 + y)))) w
