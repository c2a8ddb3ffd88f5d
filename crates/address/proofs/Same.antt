-- The derived equality of addresses is that of their versions and numbers.
use Prim.Native.Nat.{◌^◌, ◌<◌}
use mathlib.Core.Path.{◌≡◌, refl}
use Rattle.address.specs.declared.Address.{Address}
use Rattle.address.specs.declared.Address.TheVariants.{V4, V6}
use Rattle.address.specs.contracts.AddressPartialEq.TheImpl.{ghosts}
use Rattle.address.specs.Address.{number_of, same_address, version_of}
use Rattle.address.proofs.Numbers.{halves_alike}

-- an address whose lowest part is one of 64 bits, as every address is that code holds
abbrev pub Halved : Address → Type 0
Halved (V4 x) = x < 2 ^ 64
Halved (V6 h l) = l < 2 ^ 64

-- addresses that code finds equal are the same
pub eq_same : (a b : Address) → Halved a → Halved b → ghosts.eq a b ≡ same_address a b
unfolding same_address version_of number_of
eq_same (V4 x) (V4 y) p q = refl
eq_same (V4 x) (V6 i m) p q = refl
eq_same (V6 h l) (V4 y) p q = refl
eq_same (V6 h l) (V6 i m) p q = halves_alike h l i m p q
