-- `listing::put_child` meets its contract: label, SPI and session are stored one behind the other.
use mathlib.Core.Path.{sym}
use Rattle.text.specs.Text.{text}
use Rattle.rules.specs.Listing.{newline, tab}
use Rattle.listing_field.proofs.Puts.{and_then, fits_as, fits_behind, fits_first, put_as}
use Rattle.listing.proofs.Texts.{child_parts}
use Rattle.listing.proofs.put_child.Goals as goal

pub put_number-start-requires : goal.put_number-start-requires
unfolding text tab newline
put_number-start-requires c =
    fits_first _ (fits_first _ (fits_as (child_parts c.args.line c.args.child) c.requires))

pub put_hex-end-requires : goal.put_hex-end-requires
unfolding text tab newline
put_hex-end-requires c =
    fits_behind c.put_number-start.ensures (fits_first _ (fits_as (child_parts c.args.line c.args.child) c.requires))

pub put_number-requires : goal.put_number-requires
unfolding text tab newline
put_number-requires c =
    fits_behind (and_then c.put_number-start.ensures c.put_hex-end.ensures) (fits_as (child_parts c.args.line c.args.child) c.requires)

pub returns : goal.returns
unfolding text tab newline
returns c =
    let a = c.args in
    put_as (sym (child_parts a.line a.child)) (and_then (and_then c.put_number-start.ensures c.put_hex-end.ensures) c.put_number.ensures)
