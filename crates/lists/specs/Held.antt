-- Which addresses of a lent list are on hold.
use Rattle.std.specs.Prelude.{ℕ, ◌+◌, ◌*◌, ◌≤◌, Bool, false, List, ◌≡◌, get_or, length}
use Rattle.address.specs.Address.{stands}
use Rattle.address.specs.declared.Address.{Address}
use Rattle.addresses.specs.Addresses.{address_length}
use Rattle.lists.specs.Lists.{address_at}

-- for each address of a list that fits, whether it is one of those on hold
abbrev pub HeldAre : List Bool → List ℕ → List Address → Type 0
HeldAre held l hs = (i : ℕ) → address_length * i + address_length ≤ length l → get_or held i false ≡ stands (address_at l i) hs
