-- The keys of the addresses held.
use Rattle.std.specs.Prelude.{ℕ, ◌+◌, ◌-◌, ◌*◌, ◌<◌, List, ◌≡◌, get_or}
use Rattle.address.specs.Address.{most_holds}
use Rattle.addresses.specs.Keys.{key_at}
use Rattle.holds.specs.Holds.{hold_length}

-- a list has the keys of the first n addresses held at a place, and the key `other` in the last place where that is free; what stands in
-- the other free places is left open
pub record KeysOf (l : List ℕ) (at n other : ℕ) (keys : List ℕ) : Type 0 where
  pub held : (i : ℕ) → i < n → get_or keys i 0 ≡ key_at l (at + hold_length * i)
  pub last : n < most_holds → get_or keys (most_holds - 1) 0 ≡ other
