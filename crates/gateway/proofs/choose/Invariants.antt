-- `gateway::choose` meets its contract: for every list of held addresses that the array tells of, the addresses passed are not permitted, so
-- the place found among all is found among those that are left.
use Prim.Native.Nat.{ℕ, ◌+◌, ◌-◌}
use mathlib.Core.List.{List}
use mathlib.Core.Path.{◌≡◌}
use Rattle.octets.specs.Row.{row, place}
use Rattle.address.specs.Address.{permitted}
use Rattle.address.specs.declared.Address.{Address}
use Rattle.lists.specs.Held.{HeldAre}
use Rattle.lists.specs.Lists.{address_at}
use Rattle.gateway.proofs.choose.Given as goal

-- the place found among all of n addresses
abbrev pub found : ℕ → List Address → (ℕ → Address) → ℕ → ℕ
found local held f n = place (permitted local held) (row f 0 n)

-- the place found among those from i on
abbrev pub found_from : ℕ → List Address → (ℕ → Address) → ℕ → ℕ → ℕ
found_from local held f n i = i + place (permitted local held) (row f i (n - i))

abbrev pub invariant-loop-i : goal.invariant-loop-i
invariant-loop-i l = (hs : List Address) → HeldAre l.held l.list hs → found l.local hs (address_at l.list) l.count ≡ found_from l.local hs (address_at l.list) l.count l.i
