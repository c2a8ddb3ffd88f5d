-- `listing::put_tail` meets its contract: the children stand behind their count.
use mathlib.Core.Path.{sym}
use Rattle.record.specs.Octets.{children_place}
use Rattle.rules.specs.Listing.{newline, tab}
use Rattle.listing_field.proofs.Puts.{and_then, fits_as, fits_behind, fits_first, put_as}
use Rattle.listing.proofs.Texts.{tail_parts}
use Rattle.listing.proofs.put_tail.Goals as goal

pub put_number-place-requires : goal.put_number-place-requires
unfolding tab newline
put_number-place-requires c =
    fits_first _ (fits_as (tail_parts c.args.line c.args.b.now children_place c.get-n.ensures.0) c.requires.2)

pub put_children-requires : goal.put_children-requires
unfolding tab newline
put_children-requires c =
    let read = c.get-n.ensures.0 in
    let few = c.requires.1 in
    (c.requires.0, rw read few, fits_behind c.put_number-place.ensures (fits_as (tail_parts c.args.line c.args.b.now children_place read) c.requires.2))

pub returns : goal.returns
unfolding tab newline
returns c =
    let a = c.args in
    put_as (sym (tail_parts a.line a.b.now children_place c.get-n.ensures.0)) (and_then c.put_number-place.ensures c.put_children.ensures)
