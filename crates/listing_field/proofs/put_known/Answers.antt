-- `listing_field::put_known` meets its contract: 8 digits, or twice 16.
use Rattle.std.specs.Prelude.{Some}
use Prim.Native.Nat.{ℕ}
use mathlib.Core.List.{List}
use mathlib.Core.Path.{sym, ap, ◌∙◌}
use borrow.Author.Rules.{rules}
use Rattle.address.specs.Address.{number_of, version_of, width_of}
use Rattle.address.specs.declared.Address.{Address}
use Rattle.rules.specs.Listing.{address_text}
use Rattle.listing_field.proofs.Puts.{and_then, fits_as, fits_behind, fits_first, put_as}
use Rattle.listing_field.proofs.Digits.{halves_text}
use Rattle.listing_field.proofs.put_known.Goals as goal

abbrev spelt : Address → List ℕ
spelt a = address_text (Some a)

pub put_hex-requires : goal.put_hex-requires
unfolding address_text version_of width_of number_of
put_hex-requires c = fits_as (ap spelt c.in-V4.is) c.requires

pub put_hex-middle-requires : goal.put_hex-middle-requires
put_hex-middle-requires c =
    fits_first _ (fits_as (ap spelt c.in-V6.is ∙ halves_text _ _ (search rules)) c.requires)

pub put_hex-requires-in-V6 : goal.put_hex-requires-in-V6
put_hex-requires-in-V6 c =
    fits_behind c.put_hex-middle.ensures (fits_as (ap spelt c.in-V6.is ∙ halves_text _ _ (search rules)) c.requires)

pub returns-in-V4 : goal.returns-in-V4
unfolding address_text version_of width_of number_of
returns-in-V4 c = put_as (sym (ap spelt c.in-V4.is)) c.put_hex.ensures

pub returns-in-V6 : goal.returns-in-V6
returns-in-V6 c =
    put_as (sym (ap spelt c.in-V6.is ∙ halves_text _ _ (search rules))) (and_then c.put_hex-middle.ensures c.put_hex-in-V6.ensures)
