-- `listing::put_children` meets its contract. The loop's invariant: the records of the children that are left make the whole.
use Prim.Native.Nat.{◌-◌}
use Rattle.octets.specs.Row.{joined, row}
use Rattle.children.specs.Children.{child_in, children_from}
use Rattle.record.specs.Octets.{children_place}
use Rattle.rules.specs.Listing.{child_text}
use Rattle.listing_field.proofs.Puts.{Left}
use Rattle.listing.proofs.put_children.Given as goal

abbrev pub invariant-loop-i : goal.invariant-loop-i
invariant-loop-i l = Left l.buffer l.place (joined (child_text l.line) (row (child_in l.b children_place) l.i (l.n - l.i))) l.initial.buffer l.at (joined (child_text l.line) (children_from l.b children_place l.n))
