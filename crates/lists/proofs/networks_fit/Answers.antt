-- `lists::networks_fit` meets its contract: each entry of a whole list is tested.
use Rattle.std.proofs.Common.{◌≡◌, ◌/◌, ◌∙◌, length, refl, rules, tests}
use Rattle.std.proofs.lemmas.Iterator.{YieldsList-from_range}
use Rattle.std.proofs.lemmas.Iterator.Search.{all_from_yields_List}
use Rattle.octets.specs.Search.{all}
use Rattle.octets.proofs.Search.{all_range}
use Rattle.lists.specs.Lists.{networks_fit, network_fits}
use Rattle.lists.proofs.networks_fit.Goals as goal

pub returns-then-is_whole : goal.returns-then-is_whole
unfolding networks_fit
returns-then-is_whole c =
    let l = c.args.list.now in
    let n = length l / 4 in
    let each : c.all.result ≡ all n (network_fits l) =
    all_from_yields_List (network_fits l) _ _ c.all.result c.all.ensures.ran (YieldsList-from_range 0 n n refl (search rules)) (λ x b q k. search (rules, tests)) ∙ all_range n (network_fits l) in
    rw (← c.if-is_whole.ensures) each
