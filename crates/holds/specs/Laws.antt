-- Writing and reading holds undo each other; the function `laws` promises it.
use Rattle.std.specs.Prelude.{ℕ, ◌+◌, ◌*◌, ◌^◌, ◌≤◌, Bool, true, ◌&&◌, List, ◌≡◌, ltb, length}
use Rattle.octets.specs.Laws.{below}
use Rattle.octets.specs.Part.{part}
use Rattle.octets.specs.Search.{all_of}
use Rattle.address.specs.Address.{most_holds}
use Rattle.address.specs.declared.End.{End}
use Rattle.address.specs.declared.End.TheVariants.{At, Never}
use Rattle.address.specs.declared.Hold.{Hold}
use Rattle.addresses.specs.Laws.{address_storable}
use Rattle.holds.specs.Holds.{hold_length, holds_from, holds_octets, holds_room, holds_written}

-- an end that fits 5 octets and is not 0, which says that there is none
unfoldable pub end_storable : End → Bool
end_storable (At t) = ltb 0 t && ltb t (256 ^ 5)
end_storable Never = true

-- a hold whose address and end fit their octets
unfoldable pub hold_storable : Hold → Bool
hold_storable h = address_storable h.address && end_storable h.end

pub record Laws : Type 0 where
  -- so many holds have their room with the zeros behind them
  pub octet_count : (hs : List Hold) → length hs ≤ most_holds → length (holds_octets hs) ≡ holds_room
  -- so many holds in range are read back from their octets
  pub read_back : (l : List ℕ) (at : ℕ) (hs : List Hold) → length hs ≤ most_holds → all_of hold_storable hs ≡ true → part l at holds_room ≡ holds_octets hs
      → (holds_from l at (length hs) ≡ hs) × (holds_written l at (length hs) ≡ true)
  -- holds are written back as the octets that they were read from
  pub write_back : (l : List ℕ) (at n : ℕ) → all_of (below 256) l ≡ true → at + holds_room ≤ length l → holds_written l at n ≡ true
      → part l at holds_room ≡ holds_octets (holds_from l at n)
  -- holds that are read from octets are in range
  pub storable : (l : List ℕ) (at n : ℕ) → all_of (below 256) l ≡ true → at + hold_length * n ≤ length l → all_of hold_storable (holds_from l at n) ≡ true
