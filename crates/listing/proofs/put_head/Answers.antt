-- `listing::put_head` meets its contract: label, word and address are stored one behind the other.
use Rattle.text.specs.Text.{text}
use Rattle.rules.specs.Listing.{tab}
use Rattle.listing.specs.Branch.{head_text}
use Rattle.listing_field.proofs.Puts.{and_then, fits_behind, fits_first}
use Rattle.listing.proofs.put_head.Goals as goal

pub put_number-start-requires : goal.put_number-start-requires
unfolding head_text text tab
put_number-start-requires c = fits_first _ (fits_first _ (fits_first _ c.requires.2))

pub put_word-end-requires : goal.put_word-end-requires
unfolding head_text text tab
put_word-end-requires c =
    (c.requires.0, c.requires.1, fits_behind c.put_number-start.ensures (fits_first _ (fits_first _ c.requires.2)))

pub put_text-place-requires : goal.put_text-place-requires
unfolding head_text text tab
put_text-place-requires c =
    fits_behind (and_then c.put_number-start.ensures c.put_word-end.ensures) (fits_first _ c.requires.2)

pub put_address-requires : goal.put_address-requires
unfolding head_text text tab
put_address-requires c =
    let before = and_then (and_then c.put_number-start.ensures c.put_word-end.ensures) c.put_text-place.ensures in
    (c.requires.0, c.requires.1, fits_behind before c.requires.2)

pub returns : goal.returns
unfolding head_text text tab
returns c =
    and_then (and_then (and_then c.put_number-start.ensures c.put_word-end.ensures) c.put_text-place.ensures) c.put_address.ensures
