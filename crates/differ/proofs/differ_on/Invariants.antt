-- `differ::differ_on` meets its contract. The loop's invariant: the places passed decide.
use mathlib.Core.Path.{◌≡◌}
use Rattle.differ.specs.Differ.{differs_on}
use Rattle.octets.specs.Search.{all}
use Rattle.differ.proofs.differ_on.Given as goal

abbrev pub invariant-loop-i : goal.invariant-loop-i
invariant-loop-i l = l.differ ≡ all l.i (differs_on l.v l.d)
