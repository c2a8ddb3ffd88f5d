-- Digits that are stored from a place on.
use Rattle.std.specs.Prelude.{Some}
use Prim.Native.Nat.{ℕ, ◌+◌, ◌^◌, ◌<◌}
use mathlib.Core.List.{List, ◌++◌}
use mathlib.Core.Path.{◌≡◌, sym, ap, ◌∙◌}
use Rattle.octets.specs.Part.{Wrote}
use Rattle.address.specs.Address.{number_of, version_of, width_of}
use Rattle.address.specs.declared.Address.TheVariants.{V6}
use Rattle.text.specs.Text.{decimal, decimal_width, digit_text}
use Rattle.text.proofs.Texts.{length_digit_text, text_halves}
use Rattle.rules.specs.Listing.{address_text}
use Rattle.listing_field.specs.Put.{Put}

-- an address of version 6 is written half by half
pub halves_text : (high low : ℕ) → low < 2 ^ 64 → address_text (Some (V6 high low)) ≡ digit_text 16 16 high ++ digit_text 16 16 low
unfolding address_text width_of version_of number_of
halves_text high low small = text_halves 16 16 16 high low small

-- digits are as many as were asked for
pub digits_put : (b n x : ℕ) {l m : List ℕ} {at : ℕ} → Wrote l at (digit_text b n x) m → Put l at (digit_text b n x) m (at + n)
digits_put b n x {l} {m} {at} w = record { wrote = w; behind = ap (λ (k : ℕ). at + k) (sym (length_digit_text b n x)) }

pub decimal_put : (x : ℕ) {l m : List ℕ} {at next : ℕ} → Wrote l at (decimal x) m → next ≡ at + decimal_width x → Put l at (decimal x) m next
unfolding decimal
decimal_put x {l} {m} {at} {next} w e = record { wrote = w; behind = e ∙ ap (λ (k : ℕ). at + k) (sym (length_digit_text 10 (decimal_width x) x)) }
