-- `ranking::ranked` meets its contract. The loop's invariant: the best so far and the best of the records that are left is the best of all.
use mathlib.Core.Path.{◌≡◌, refl, sym, ap, ◌∙◌}
use borrow.Author.Rules.{rules}
use Rattle.config.specs.Settings.{plmn_in, settings_of}
use Rattle.lists.specs.Lists.{networks_in}
use Rattle.preference.specs.Preference.{eligible, network_of, ranked}
use Rattle.ranking.specs.Branch.{best_of}
use Rattle.ranking.proofs.Picks.{best_more, best_same, best_alone}
use Rattle.ranking.proofs.ranked.Goals as goal
use Rattle.ranking.proofs.ranked.Goals.{then-is_eligible, else-is_eligible}

pub loop-x-init : goal.loop-x-init
unfolding best_of
loop-x-init c = refl

pub loop-x-preserved : goal.loop-x-preserved
loop-x-preserved c =
    let a = c.args in
    let at-loop = c.loop-x in
    let passes = eligible (settings_of a.configuration) (networks_in a.networks.now) a.place in
    elim c.if-is_eligible.branch [
      | then-is_eligible w ↦ rw (w.best-is, w.better_of.ensures)
          (best_more passes a.configuration.plmns.now at-loop.x-index _ c.loop-x-test.true at-loop.best (sym c.is_eligible.ensures ∙ w.if-is_eligible.true) ∙ at-loop.invariant)
      | else-is_eligible w ↦ rw w.best-is
          (best_same passes a.configuration.plmns.now at-loop.x-index _ c.loop-x-test.true at-loop.best (sym c.is_eligible.ensures ∙ w.if-is_eligible.false) ∙ at-loop.invariant)
    ]

pub returns : goal.returns
unfolding ranked network_of plmn_in settings_of
returns c =
    let a = c.args in
    let at-loop = c.loop-x in
    let passes = eligible (settings_of a.configuration) (networks_in a.networks.now) a.place in
    let told : c.map.result ≡ network_of at-loop.best = search rules in
    told ∙ ap network_of (sym (best_alone passes a.configuration.plmns.now at-loop.x-index c.loop-x-test.false at-loop.best) ∙ at-loop.invariant)
