-- What holds of the choice of an address, for every list; the function `laws` promises it.
use Rattle.std.specs.Prelude.{ℕ, List, ◌≡◌, length}
use Rattle.octets.specs.Row.{FirstAt, NonePasses}
use Rattle.address.specs.Address.{permitted}
use Rattle.address.specs.declared.Address.{Address}
use Rattle.gateway.specs.Gateway.{choose}
use Rattle.gateway.specs.declared.Found.TheVariants.{Chosen, Nothing}

pub record Laws : Type 0 where
  -- the chosen address is permitted, none before it is, and as many are passed over as stand before it
  pub chosen_first : (version : ℕ) (held l : List Address) (a : Address) (k : ℕ) → choose version held l ≡ Chosen a k → FirstAt (permitted version held) l k a
  -- nothing is chosen where no address is permitted, and all are passed over
  pub nothing_permitted : (version : ℕ) (held l : List Address) (k : ℕ) → choose version held l ≡ Nothing k → (k ≡ length l) × NonePasses (permitted version held) l
