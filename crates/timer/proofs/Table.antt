-- The table of units agrees with the rule at each entry, by one test of the whole table.
use Prim.Native.Nat.{ℕ, ◌<◌}
use mathlib.Core.Bool.{Bool, true}
use mathlib.Core.List.{List}
use mathlib.Core.Path.{◌≡◌}
use lib.Dec.{eqb}
use lib.ListN.{get_or}
use borrow.Author.Tests.{eqb-true}
use Rattle.octets.specs.Search.{all}
use Rattle.octets.proofs.Search.{all_each}
use Rattle.timer.specs.Timer.{unit_seconds}

-- a table's entry at a unit is that unit's seconds
unfoldable pub agrees : List ℕ → ℕ → Bool
agrees table unit = eqb (get_or table unit 0) (unit_seconds unit)

-- a table that agrees at all seven units has each unit's seconds at its entry
pub entry : (table : List ℕ) → all 7 (agrees table) ≡ true → (unit : ℕ) → unit < 7 → get_or table unit 0 ≡ unit_seconds unit
unfolding agrees
entry table e unit h = eqb-true (get_or table unit 0) (unit_seconds unit) (all_each 7 (agrees table) e unit h)
