-- `listing_field::put_number` meets its contract: text, number and text are stored one behind the other.
use native.Mathlib.Omega.{arith}
use Rattle.listing_field.proofs.Puts.{and_then, fits_behind, fits_first}
use Rattle.listing_field.proofs.Digits.{decimal_put}
use Rattle.listing_field.proofs.put_number.Goals as goal

pub put_text-start-requires : goal.put_text-start-requires
put_text-start-requires c = fits_first _ (fits_first _ c.requires)

pub put_decimal-end-requires : goal.put_decimal-end-requires
put_decimal-end-requires c =
    let fits = fits_behind c.put_text-start.ensures (fits_first _ c.requires) in
    omega arith

pub put_text-requires : goal.put_text-requires
put_text-requires c =
    fits_behind (and_then c.put_text-start.ensures (decimal_put c.args.x c.put_decimal-end.ensures.wrote c.put_decimal-end.ensures.next)) c.requires

pub returns : goal.returns
returns c =
    let x = c.args.x in
    and_then (and_then c.put_text-start.ensures (decimal_put x c.put_decimal-end.ensures.wrote c.put_decimal-end.ensures.next)) c.put_text.ensures
