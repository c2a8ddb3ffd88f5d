-- `listing::find_lines` meets its contract. The loop's invariant: of the records from i on, the first ones of the lines are found.
use mathlib.Core.Path.{◌≡◌}
use lib.ListN.{length}
use Rattle.listing.proofs.Finds.{Found}
use Rattle.listing.proofs.find_lines.Given as goal

abbrev pub invariant-loop-i : goal.invariant-loop-i
invariant-loop-i l = (length l.found ≡ 4) × Found l.table l.tenant l.i l.found
