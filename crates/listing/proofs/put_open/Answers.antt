-- `listing::put_open` meets its contract: nothing is stored past the last record.
use mathlib.Core.Path.{sym, ap, ◌∙◌}
use native.Mathlib.Omega.{arith}
use Rattle.record.specs.Sound.{is_record}
use Rattle.table.specs.Table.{slot}
use Rattle.listing.proofs.Lines.{none_text, some_text}
use Rattle.listing_field.proofs.Puts.{fits_as, put_as, put_none}
use Rattle.listing.proofs.put_open.Goals as goal

pub returns-then-i-ge-RECORDS : goal.returns-then-i-ge-RECORDS
returns-then-i-ge-RECORDS c =
    let a = c.args in
    put_as (sym (none_text a.table.now a.i a.line c.if-i-ge-RECORDS.true)) (put_none _ _)

pub part-requires : goal.part-requires
part-requires c = (c.requires.0 c.if-i-ge-RECORDS.false).0

pub put_line-requires : goal.put_line-requires
unfolding slot
put_line-requires c =
    let within = c.if-i-ge-RECORDS.false in
    let a = c.args in
    let own = c.part.ensures.0 in
    (omega (arith, c.part.ensures.1), ap is_record own ∙ (c.requires.0 within).1, fits_as (some_text a.table.now a.i a.line within own) c.requires.1)

pub returns : goal.returns
unfolding slot
returns c =
    let a = c.args in
    put_as (sym (some_text a.table.now a.i a.line c.if-i-ge-RECORDS.false c.part.ensures.0)) c.put_line.ensures
