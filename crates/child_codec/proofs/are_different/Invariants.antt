-- `child_codec::are_different` meets its contract. The loop's invariant: the children that are left decide.
use mathlib.Core.Path.{◌≡◌}
use lib.ListN.{drop}
use Rattle.children.specs.Children.{spis_differ}
use Rattle.child_codec.proofs.are_different.Given as goal

abbrev pub invariant-loop-i : goal.invariant-loop-i
invariant-loop-i l = spis_differ l.children ≡ spis_differ (drop l.i l.children)
