-- `child_codec::put_child` meets its contract: two writes, the second where the first ends.
use mathlib.Core.Path.{refl}
use Rattle.octets.specs.Digits.{be, digits}
use Rattle.octets.proofs.Parts.{then}
use Rattle.children.specs.Children.{child_octets}
use Rattle.child_codec.proofs.put_child.Goals as goal

pub returns : goal.returns
unfolding child_octets be digits
returns c =
    then c.put.ensures c.put-2.ensures refl
