-- `record_reader::held_in` meets its contract. The loop's invariant: the answers before number i are those of their addresses.
use Prim.Native.Nat.{ℕ, ◌<◌}
use mathlib.Core.Bool.{Bool, false}
use mathlib.Core.List.{List}
use mathlib.Core.Path.{◌≡◌}
use lib.ListN.{length, get_or}
use Rattle.octets.specs.Row.{only}
use Rattle.address.specs.Address.{held_addresses, stands}
use Rattle.address.specs.declared.Address.{Address}
use Rattle.holds.specs.Holds.{ends_after, holds_from}
use Rattle.lists.specs.Lists.{address_at}
use Rattle.record_reader.proofs.held_in.Given as goal

-- the addresses of those of the first n holds that end after a time
abbrev pub on-hold : List ℕ → ℕ → ℕ → List Address
on-hold b n time = held_addresses (only (ends_after time) (holds_from b 27 n))

-- whether the address with a number is one of them
abbrev pub Is : List ℕ → ℕ → ℕ → List ℕ → ℕ → Bool
Is b n time list j = stands (address_at list j) (on-hold b n time)

abbrev pub invariant-loop-i : goal.invariant-loop-i
invariant-loop-i l = (length l.held ≡ 16) × ((j : ℕ) → j < l.i → get_or l.held j false ≡ Is l.b l.n l.time l.list j)
