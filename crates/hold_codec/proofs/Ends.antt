-- The end of a hold: its octets as the last of eight, and the test of its number.
use Prim.Native.Nat.{ℕ, ◌+◌, ◌-◌, ◌%◌, ◌^◌, ◌≤◌, ◌<◌}
use mathlib.Core.Bool.{Bool, true, false, cond, ◌||◌}
use mathlib.Core.List.{List}
use mathlib.Core.Path.{◌≡◌, refl, ap, ◌∙◌}
use native.Mathlib.Omega.{arith}
use lib.Arith.{digits_mod}
use lib.Dec.{eqb, ltb}
use lib.ListN.{length, get_or}
use Rattle.octets.specs.Digits.{field}
use Rattle.octets.proofs.Fields.{field_below, field_halves}
use Rattle.octets.proofs.Octets.{each_octet}
use Rattle.address.specs.declared.End.TheVariants.{At, Never}
use Rattle.holds.specs.Holds.{end_after, end_of}

-- the last five of eight octets
last_five : (l : List ℕ) → ((i : ℕ) → get_or l i 0 < 256) → (at : ℕ) → at + 8 ≤ length l → field l at 8 % 256 ^ 5 ≡ field l (at + 3) 5
last_five l octets at fits =
    ap (λ (x : ℕ). x % 256 ^ 5) (field_halves l at 3 5 (omega arith)) ∙ digits_mod (field l at 3) (field_below l (each_octet l octets) (at + 3) 5 (omega arith))

-- zero is no end, and any other number is one
end_tested : (time x : ℕ) → eqb x 0 || ltb time x ≡ end_after time (end_of x)
unfolding end_after end_of
end_tested time x = go (eqb x 0)
  where
    go : (t : Bool) → t || ltb time x ≡ end_after time (cond t Never (At x))
    go true = refl
    go false = refl

-- the test of the end at a place
pub end_after_lem : (l : List ℕ) → ((i : ℕ) → get_or l i 0 < 256) → (at : ℕ) → at + 22 ≤ length l → (time x : ℕ) → x ≡ field l (at + 17 - 3) 8
    → eqb (x % 1099511627776) 0 || ltb time (x % 1099511627776) ≡ end_after time (end_of (field l (at + 17) 5))
end_after_lem l octets at fits time x e =
    let place : at + 17 - 3 + 3 ≡ at + 17 = omega arith in
    let same : x % 1099511627776 ≡ field l (at + 17) 5 =
    ap (λ (k : ℕ). k % 256 ^ 5) e ∙ last_five l octets (at + 17 - 3) (omega arith) ∙ ap (λ (k : ℕ). field l k 5) place in
    end_tested time (x % 1099511627776) ∙ ap (λ (k : ℕ). end_after time (end_of k)) same
