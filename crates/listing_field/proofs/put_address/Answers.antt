-- `listing_field::put_address` meets its contract: the address, or a hyphen.
use mathlib.Core.Path.{sym}
use Rattle.text.specs.Text.{text}
use Rattle.listing_field.proofs.Phases.{address_at_lem, hyphen_at}
use Rattle.listing_field.proofs.Puts.{fits_as, put_as}
use Rattle.listing_field.proofs.put_address.Goals as goal

pub put_text-requires : goal.put_text-requires
unfolding text
put_text-requires c =
    fits_as (hyphen_at c.args.b.now c.requires.1 c.get.ensures.0 c.if-get-lt-CHOSEN.true) c.requires.2

pub returns-then-get-lt-CHOSEN : goal.returns-then-get-lt-CHOSEN
unfolding text
returns-then-get-lt-CHOSEN c =
    put_as (sym (hyphen_at c.args.b.now c.requires.1 c.get.ensures.0 c.if-get-lt-CHOSEN.true)) c.put_text.ensures

pub put_known-requires : goal.put_known-requires
put_known-requires c =
    fits_as (address_at_lem c.args.b.now c.requires.1 c.get.ensures.0 c.if-get-lt-CHOSEN.false c.read_address.ensures) c.requires.2

pub returns : goal.returns
returns c =
    put_as (sym (address_at_lem c.args.b.now c.requires.1 c.get.ensures.0 c.if-get-lt-CHOSEN.false c.read_address.ensures)) c.put_known.ensures
