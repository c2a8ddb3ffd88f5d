-- The two halves of an address are those that it is made of.
use Prim.Native.Nat.{ℕ, ◌/◌, ◌%◌, ◌^◌, ◌<◌}
use mathlib.Core.Path.{◌≡◌, sym, ap, ◌∙◌}
use native.Mathlib.Nat.{zero-add}
use lib.Arith.{digits_div, digits_mod}
use Rattle.address.specs.Address.{high, low, number_of}
use Rattle.address.specs.declared.Address.TheVariants.{V4, V6}

module _ (x : ℕ) (fits : x < 2 ^ 64) where
  pub high_4 : high (V4 x) ≡ 0
  unfolding high number_of
  high_4 = ap (λ (k : ℕ). k / 2 ^ 64) (sym (zero-add x)) ∙ digits_div 0 fits

  pub low_4 : low (V4 x) ≡ x
  unfolding low number_of
  low_4 = ap (λ (k : ℕ). k % 2 ^ 64) (sym (zero-add x)) ∙ digits_mod 0 fits

  pub high_6 : (h : ℕ) → high (V6 h x) ≡ h
  unfolding high number_of
  high_6 h = digits_div h fits

  pub low_6 : (h : ℕ) → low (V6 h x) ≡ x
  unfolding low number_of
  low_6 h = digits_mod h fits
