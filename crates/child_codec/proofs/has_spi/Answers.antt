-- `child_codec::has_spi` meets its contract: `any` answers whether one of the children has the SPI.
use mathlib.Core.Bool.{◌||◌}
use mathlib.Core.Path.{refl, ◌∙◌}
use Rattle.std.proofs.Common.{rules, tests}
use Rattle.std.specs.List.{list_any}
use Rattle.std.proofs.lemmas.Iterator.{YieldsList-from_slice}
use Rattle.std.proofs.lemmas.Iterator.Search.{any_from_yields_List}
use Rattle.std.proofs.lemmas.List.Recursion.{same_from_clauses}
use Rattle.octets.specs.Search.{any_of}
use Rattle.children.specs.Children.{has_spi, is_spi}
use Rattle.child_codec.proofs.has_spi.Goals as goal

pub returns : goal.returns
unfolding has_spi any_of is_spi
returns c =
    let test = is_spi c.args.spi in
    any_from_yields_List test _ _ _ c.any.ensures.ran (YieldsList-from_slice c.args.children.now cc) (λ x b q k. search (rules, tests))
    ∙ same_from_clauses (list_any test) (has_spi c.args.spi) (λ x t. test x || t) refl (λ _ _. refl) (λ _ _. refl) _
