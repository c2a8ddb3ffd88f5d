-- `whole::held_among` meets its contract: the first i places of the array tell of the first i addresses.
use Prim.Native.Nat.{ℕ, ◌<◌}
use mathlib.Core.Bool.{Bool, false}
use mathlib.Core.List.{List}
use mathlib.Core.Path.{◌≡◌}
use lib.ListN.{get_or, length}
use Rattle.address.specs.Address.{held_addresses, stands}
use Rattle.address.specs.declared.Address.{Address}
use Rattle.lists.specs.Lists.{address_at, most_entries}
use Rattle.whole.proofs.held_among.Given as goal

-- the first i places of the array tell of the first i addresses
abbrev pub Told : List Bool → List ℕ → List Address → ℕ → Type 0
Told held l hs i = (j : ℕ) → j < i → get_or held j false ≡ stands (address_at l j) hs

abbrev pub invariant-loop-i : goal.invariant-loop-i
invariant-loop-i l = (length l.held ≡ most_entries) × Told l.held l.list (held_addresses l.holds) l.i
