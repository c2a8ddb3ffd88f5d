-- `listing::put_children` meets its contract. The loop's invariant: the records of the children that are left make the whole.
use mathlib.Core.Path.{sym, ap}
use native.Mathlib.Nat.{sub-zero}
use Rattle.children.specs.Children.{child_in, children_from}
use Rattle.record.specs.Octets.{children_place}
use Rattle.rules.specs.Listing.{child_text}
use Rattle.listing_field.proofs.Puts.{fits_as, left_all, left_done, left_fits, left_less, put_as}
use Rattle.listing.proofs.Texts.{next_joined, none_joined}
use Rattle.listing.proofs.put_children.Goals as goal

pub loop-i-init : goal.loop-i-init
unfolding children_from
loop-i-init c = rw sub-zero (left_all _ _ _)

pub put_child-place-requires : goal.put_child-place-requires
unfolding child_in
put_child-place-requires c =
    let at-loop = c.loop-i in
    let a = c.args in
    let next = next_joined (child_text a.line) (child_in a.b.now children_place) at-loop.i a.n c.loop-i-test.true in
    fits_as (ap (child_text a.line) (sym c.read_child.ensures)) (left_fits at-loop.invariant _ next c.requires.2)

pub loop-i-preserved : goal.loop-i-preserved
unfolding child_in
loop-i-preserved c =
    let at-loop = c.loop-i in
    let a = c.args in
    let next = next_joined (child_text a.line) (child_in a.b.now children_place) at-loop.i a.n c.loop-i-test.true in
    left_less at-loop.invariant next (put_as (ap (child_text a.line) c.read_child.ensures) c.put_child-place.ensures)

pub shape_of-buffer : goal.shape_of-buffer
shape_of-buffer c = c.loop-i.invariant.size

pub returns : goal.returns
returns c =
    let at-loop = c.loop-i in
    let a = c.args in
    left_done at-loop.invariant (none_joined (child_text a.line) (child_in a.b.now children_place) at-loop.i a.n c.loop-i-test.false)
