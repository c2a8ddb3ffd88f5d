-- `differ::twice` meets its contract.
use mathlib.Core.Path.{refl}
use Rattle.octets.proofs.Eight.{each_place}
use Rattle.differ.proofs.twice.Goals as goal

pub returns : goal.returns
returns c = each_place _ (refl, refl) (refl, refl) (refl, refl) (refl, refl) (refl, refl) (refl, refl) (refl, refl) (refl, refl)
