-- A hold in octets: its address, and its end in 5 octets, of which zero says that it has none.
use Rattle.std.specs.Prelude.{ℕ, ◌+◌, ◌-◌, ◌*◌, Bool, true, cond, ◌&&◌, List, ◌++◌, leb, ltb, eqb}
use Rattle.octets.specs.Digits.{be, field}
use Rattle.octets.specs.Part.{padded, zeros_at}
use Rattle.octets.specs.Row.{joined, row}
use Rattle.octets.specs.Search.{all, distinct}
use Rattle.address.specs.Address.{most_holds, same_address}
use Rattle.address.specs.declared.Address.{Address}
use Rattle.address.specs.declared.End.{End}
use Rattle.address.specs.declared.End.TheVariants.{At, Never}
use Rattle.address.specs.declared.Hold.{Hold}
use Rattle.addresses.specs.Addresses.{address_from, address_length, address_octets, is_address}

-- the octets of a hold, and the room for all the holds that a line may have
abbrev pub hold_length : ℕ
hold_length = address_length + 5

abbrev pub holds_room : ℕ
holds_room = most_holds * hold_length

unfoldable pub end_number : End → ℕ
end_number (At t) = t
end_number Never = 0

unfoldable pub hold_octets : Hold → List ℕ
hold_octets h = address_octets h.address ++ be 5 (end_number h.end)

unfoldable pub holds_octets : List Hold → List ℕ
holds_octets hs = padded holds_room (joined hold_octets hs)

-- the hold at a place
unfoldable pub end_of : ℕ → End
end_of t = cond (eqb t 0) Never (At t)

unfoldable pub hold_from : List ℕ → ℕ → Hold
hold_from l at = record { address = address_from l at; end = end_of (field l (at + address_length) 5) }

-- the hold with a number among those that begin at a place
unfoldable pub hold_in : List ℕ → ℕ → ℕ → Hold
hold_in l at i = hold_from l (at + hold_length * i)

unfoldable pub holds_from : List ℕ → ℕ → ℕ → List Hold
holds_from l at n = row (hold_in l at) 0 n

-- so many holds at most, each with an address that there is, and zeros in the places behind them
unfoldable pub has_address : List ℕ → ℕ → ℕ → Bool
has_address l at i = is_address l (at + hold_length * i)

unfoldable pub holds_written : List ℕ → ℕ → ℕ → Bool
holds_written l at n = leb n most_holds && all n (has_address l at) && zeros_at l (at + hold_length * n) (holds_room - hold_length * n)

-- holds for different addresses
unfoldable pub different : List Address → Bool
different held = distinct same_address held

-- each ending after a time
unfoldable pub end_after : ℕ → End → Bool
end_after time (At t) = ltb time t
end_after time Never = true

unfoldable pub ends_after : ℕ → Hold → Bool
ends_after time h = end_after time h.end
