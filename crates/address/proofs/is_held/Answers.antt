-- `address::is_held` meets its contract: `any` answers whether one of the holds is for the address.
use mathlib.Core.Bool.{Bool, ◌||◌}
use mathlib.Core.Path.{refl, ◌∙◌}
use Rattle.std.proofs.Common.{rules, tests}
use Rattle.std.specs.List.{list_any}
use Rattle.std.proofs.lemmas.Iterator.{YieldsList-from_slice}
use Rattle.std.proofs.lemmas.Iterator.Search.{any_from_yields_List}
use Rattle.std.proofs.lemmas.List.Recursion.{same_from_clauses}
use Rattle.octets.specs.Search.{any_of}
use Rattle.address.specs.declared.Hold.{Hold}
use Rattle.address.specs.Address.{address_in, held_addresses, same_address, stands}
use Rattle.address.proofs.is_held.Goals as goal

pub returns : goal.returns
unfolding stands any_of address_in
returns c =
    let test : Hold → Bool = λ h. same_address c.args.a h.address in
    any_from_yields_List test _ _ _ c.any.ensures.ran (YieldsList-from_slice c.args.holds.now cc) (λ x b q k. search (rules, tests))
    ∙ same_from_clauses (list_any test) (λ l. stands c.args.a (held_addresses l)) (λ h t. test h || t) refl (λ _ _. refl) (λ _ _. refl) _
