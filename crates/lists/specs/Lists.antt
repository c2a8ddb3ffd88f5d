-- Lent lists, entry by entry.
use Rattle.std.specs.Prelude.{ℕ, ◌+◌, ◌*◌, ◌/◌, ◌%◌, Bool, ◌&&◌, List, leb, eqb, length}
use Rattle.octets.specs.Digits.{field}
use Rattle.octets.specs.Row.{row}
use Rattle.octets.specs.Search.{all}
use Rattle.network.specs.Plmn.{plmn_fits}
use Rattle.network.specs.declared.Plmn.{Plmn}
use Rattle.address.specs.declared.Address.{Address}
use Rattle.addresses.specs.Addresses.{address_from, address_length, is_address}

-- at most 16 whole entries of a size
abbrev pub most_entries : ℕ
most_entries = 16

unfoldable pub whole : ℕ → List ℕ → Bool
whole size l = eqb (length l % size) 0 && leb (length l / size) most_entries

-- a network is its MCC and its MNC, two octets each
abbrev pub network_length : ℕ
network_length = 4

unfoldable pub network_at : List ℕ → ℕ → Plmn
network_at l i = record { mcc = field l (network_length * i) 2; mnc = field l (network_length * i + 2) 2 }

-- MCC and MNC are 0 to 999
unfoldable pub network_fits : List ℕ → ℕ → Bool
network_fits l i = plmn_fits (network_at l i)

-- a list of networks that is not refused by 8
unfoldable pub networks_fit : List ℕ → Bool
networks_fit l = whole network_length l && all (length l / network_length) (network_fits l)

unfoldable pub networks_in : List ℕ → List Plmn
networks_in l = row (network_at l) 0 (length l / network_length)

-- an address is its version and 16 octets
unfoldable pub address_at : List ℕ → ℕ → Address
address_at l i = address_from l (address_length * i)

unfoldable pub address_fits : List ℕ → ℕ → Bool
address_fits l i = is_address l (address_length * i)

-- a list of addresses that is not refused by 8
unfoldable pub addresses_fit : List ℕ → Bool
addresses_fit l = whole address_length l && all (length l / address_length) (address_fits l)

unfoldable pub addresses_in : List ℕ → List Address
addresses_in l = row (address_at l) 0 (length l / address_length)
