-- Which phases wait for the country answer.
use Rattle.std.specs.Prelude.{◌≡◌, None, Some, false, refl}
use Rattle.std.proofs.Common.{ap, sym}
use Rattle.std.proofs.lemmas.Option.{none-some, same_Some}
use Rattle.place.specs.declared.Facts.{Facts}
use Rattle.phase.specs.Awaited.{awaited_in}
use Rattle.phase.specs.Stage as Stage
use Rattle.phase.specs.Stage.{is_in}
use Rattle.phase.specs.declared.Phase.{Phase}
use Rattle.phase.specs.declared.Phase.TheVariants.{Country}

-- facts are awaited in phase country alone
pub in_country : (p : Phase) (f : Facts) → awaited_in p ≡ Some f → p ≡ Country f
unfolding awaited_in
in_country (Country g) f e = ap Country (same_Some g f e)
in_country _ f e = absurd (none-some f e)

pub elsewhere : (p : Phase) → awaited_in p ≡ None → is_in Stage.country p ≡ false
unfolding is_in awaited_in
elsewhere (Country f) e = absurd (none-some f (sym e))
elsewhere _ e = refl
