-- How many octets a hold has.
use Prim.Native.Nat.{ℕ, ◌+◌}
use mathlib.Core.List.{List}
use mathlib.Core.Path.{◌≡◌, refl, ap₂, ◌∙◌, subst}
use lib.ListN.{length, length-append}
use Rattle.octets.specs.Digits.{be, digits}
use Rattle.octets.specs.Part.{Wrote}
use Rattle.address.specs.declared.Address.TheVariants.{V4}
use Rattle.address.specs.declared.End.TheVariants.{At}
use Rattle.address.specs.declared.Hold.{Hold}
use Rattle.addresses.specs.Addresses.{address_octets}
use Rattle.addresses.proofs.Widths.{address_wide}
use Rattle.holds.specs.Holds.{end_number, hold_octets}

pub hold_wide : (h : Hold) → length (hold_octets h) ≡ 22
unfolding hold_octets be digits
hold_wide h = length-append (address_octets h.address) (be 5 (end_number h.end)) ∙ ap₂ (λ (m n : ℕ). m + n) (address_wide h.address) refl

-- what stands past the end of a list
abbrev pub nothing : Hold
nothing = record { address = V4 0; end = At 0 }

-- a number that is the end's is written as the end's
pub written_end : {l m : List ℕ} {at x y : ℕ} → x ≡ y → Wrote l at (be 5 x) m → Wrote l at (be 5 y) m
written_end {l} {m} {at} e w = subst (λ (z : ℕ). Wrote l at (be 5 z) m) e w
