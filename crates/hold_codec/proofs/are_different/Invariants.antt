-- `hold_codec::are_different` meets its contract. The loop's invariant: the holds that are left decide.
use mathlib.Core.Path.{◌≡◌}
use lib.ListN.{drop}
use Rattle.address.specs.Address.{held_addresses}
use Rattle.holds.specs.Holds.{different}
use Rattle.hold_codec.proofs.are_different.Given as goal

abbrev pub invariant-loop-i : goal.invariant-loop-i
invariant-loop-i l = different (held_addresses l.holds) ≡ different (held_addresses (drop l.i l.holds))
