-- `listing::list` meets its contract. The loop's invariant: the texts of the lines that are left make the whole.
use mathlib.Core.Path.{◌≡◌, refl, sym, ap, ◌∙◌}
use native.Mathlib.Omega.{arith}
use lib.ListN.{length}
use Rattle.octets.specs.Part.{padded}
use Rattle.octets.proofs.Parts.{length_zeros}
use Rattle.table.specs.Slots.{slots_of}
use Rattle.table.proofs.Puts.{table_length_lem}
use Rattle.rules.specs.View.{own_line}
use Rattle.rules.proofs.Found.{record_there}
use Rattle.rules.proofs.Listings.{listing_short}
use Rattle.listing.specs.Branch.{open_text}
use Rattle.listing.specs.Listed.{listing_of}
use Rattle.listing.proofs.Lines.{own_in}
use Rattle.listing_field.proofs.Puts.{fits_as, left_all, left_done, left_fits, left_less, put_as, put_padded}
use Rattle.listing.proofs.Texts.{next_line, no_line}
use Rattle.listing.proofs.list.Goals as goal

pub find_lines-requires : goal.find_lines-requires
find_lines-requires c =
    (omega (arith, table_length_lem c.args.table.now c.requires.0), c.requires.1)

pub loop-line-init : goal.loop-line-init
unfolding listing_of
loop-line-init c = left_all _ _ _

pub put_open-at-requires : goal.put_open-at-requires
unfolding listing_of
put_open-at-requires c =
    let at-loop = c.loop-line in
    let a = c.args in
    let size = ap length c.zero.ensures ∙ length_zeros (length a.buffer.now) in
    let short = listing_short a.table.now c.requires.0 a.tenant in
    let found = c.find_lines.ensures at-loop.line (omega arith) in
    let next = next_line (own_line a.tenant (slots_of a.table.now)) at-loop.line 4 (omega arith) in (
      λ within. (omega (arith, table_length_lem a.table.now c.requires.0), record_there a.table.now a.tenant at-loop.line refl found within c.requires.0),
      fits_as (ap (open_text at-loop.line) (own_in a.table.now a.tenant at-loop.line _ found)) (left_fits at-loop.invariant _ next (record { room = omega arith })),
    )

pub loop-line-preserved : goal.loop-line-preserved
loop-line-preserved c =
    let at-loop = c.loop-line in
    let a = c.args in
    let found = c.find_lines.ensures at-loop.line (omega arith) in
    let next = next_line (own_line a.tenant (slots_of a.table.now)) at-loop.line 4 (omega arith) in
    left_less at-loop.invariant next (put_as (sym (ap (open_text at-loop.line) (own_in a.table.now a.tenant at-loop.line _ found))) c.put_open-at.ensures)

pub shape_of-buffer : goal.shape_of-buffer
shape_of-buffer c = c.loop-line.invariant.size ∙ ap length c.zero.ensures ∙ length_zeros _

pub returns : goal.returns
unfolding listing_of
returns c =
    let at-loop = c.loop-line in
    let a = c.args in
    let short = listing_short a.table.now c.requires.0 a.tenant in
    let whole = listing_of a.tenant a.table.now in
    let done : (at-loop.buffer ≡ padded (length a.buffer.now) whole) × (at-loop.at ≡ length whole) =
    put_padded c.zero.ensures (omega arith) (left_done at-loop.invariant (no_line (own_line a.tenant (slots_of a.table.now)) at-loop.line 4 (omega arith))) in
    record { buffer_after = done.0; value = done.1 }
