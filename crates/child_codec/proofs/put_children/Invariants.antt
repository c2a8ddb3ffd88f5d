-- `child_codec::put_children` meets its contract. The loop's invariant: the children passed are stored.
use mathlib.Core.Path.{◌≡◌}
use lib.ListN.{length, take}
use Rattle.octets.specs.Part.{Wrote}
use Rattle.octets.specs.Row.{joined}
use Rattle.children.specs.Children.{child_octets}
use Rattle.child_codec.proofs.put_children.Given as goal

abbrev pub invariant-loop-i : goal.invariant-loop-i
invariant-loop-i l = (length l.b ≡ length l.initial.b) × Wrote l.initial.b l.at (joined child_octets (take l.i l.children)) l.b
