-- `listing::put_line` meets its contract: the children stand behind the line.
use mathlib.Core.Path.{sym}
use Rattle.record.specs.Octets.{line_from}
use Rattle.record.proofs.Sounds.{child_octet, sound_phase}
use Rattle.listing_field.proofs.Puts.{and_then, fits_as, fits_behind, fits_first, put_as}
use Rattle.listing.proofs.Texts.{line_parts}
use Rattle.listing.proofs.put_line.Goals as goal

pub put_head-place-requires : goal.put_head-place-requires
unfolding line_from
put_head-place-requires c =
    let b = c.args.b.now in
    (c.requires.0, sound_phase b c.requires.1, fits_first _ (fits_as (line_parts c.args.line (line_from b)) c.requires.2))

pub put_tail-requires : goal.put_tail-requires
unfolding line_from
put_tail-requires c =
    let b = c.args.b.now in
    (c.requires.0, child_octet b c.requires.1, fits_behind c.put_head-place.ensures (fits_as (line_parts c.args.line (line_from b)) c.requires.2))

pub returns : goal.returns
unfolding line_from
returns c =
    let a = c.args in
    put_as (sym (line_parts a.line (line_from a.b.now))) (and_then c.put_head-place.ensures c.put_tail.ensures)
