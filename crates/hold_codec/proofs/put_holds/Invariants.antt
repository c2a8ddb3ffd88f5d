-- `hold_codec::put_holds` meets its contract. The loop's invariant: the holds passed are stored.
use mathlib.Core.Path.{◌≡◌}
use lib.ListN.{length, take}
use Rattle.octets.specs.Part.{Wrote}
use Rattle.octets.specs.Row.{joined}
use Rattle.holds.specs.Holds.{hold_octets}
use Rattle.hold_codec.proofs.put_holds.Given as goal

abbrev pub invariant-loop-i : goal.invariant-loop-i
invariant-loop-i l = (length l.b ≡ length l.initial.b) × Wrote l.initial.b l.at (joined hold_octets (take l.i l.holds)) l.b
