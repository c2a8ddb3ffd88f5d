-- `ranking::ranked` meets its contract. The loop's invariant: the best so far and the best of the records that are left is the best of all.
use mathlib.Core.Path.{◌≡◌}
use lib.ListN.{drop}
use Rattle.octets.specs.Row.{only}
use Rattle.config.specs.Settings.{settings_of}
use Rattle.lists.specs.Lists.{networks_in}
use Rattle.preference.specs.Preference.{best, eligible}
use Rattle.ranking.specs.Branch.{best_of}
use Rattle.ranking.proofs.ranked.Given as goal

abbrev pub invariant-loop-x : goal.invariant-loop-x
invariant-loop-x l =
    let passes = eligible (settings_of l.configuration) (networks_in l.networks) l.place in
    best_of l.best (best (only passes (drop l.x-index l.configuration.plmns.now))) ≡ best (only passes l.configuration.plmns.now)
