-- `choosing::country` meets its contract: no reply, no network, or one and more.
use mathlib.Core.Bool.{true, false}
use mathlib.Core.Path.{◌≡◌, sym, ◌∙◌}
use Rattle.config.specs.Settings.{settings_of}
use Rattle.lists.specs.Lists.{networks_in}
use Rattle.ranking.proofs.Picks.{no_network, some_network}
use Rattle.selection.specs.Selection.{country_reply, country}
use Rattle.selection.proofs.Choices.{none_is, more_are}
use Rattle.choosing.proofs.country.Goals as goal

pub returns-then-not-replied : goal.returns-then-not-replied
unfolding country_reply country
returns-then-not-replied c =
    let unreplied : c.args.replied ≡ false = c.if-not-replied.true in
    sym (rw unreplied)

pub returns-then-networks-lt-NETWORK : goal.returns-then-networks-lt-NETWORK
unfolding country_reply
returns-then-networks-lt-NETWORK c =
    let a = c.args in
    let l = a.networks.now in
    let replied : a.replied ≡ true = c.if-not-replied.false in
    c.none_listed.ensures ∙ rw replied (none_is (settings_of a.configuration) a.facts (networks_in l) (no_network l c.if-networks-lt-NETWORK.true))

pub returns : goal.returns
unfolding country_reply
returns c =
    let a = c.args in
    let l = a.networks.now in
    let replied : a.replied ≡ true = c.if-not-replied.false in
    let listed = some_network l c.if-networks-lt-NETWORK.false in
    c.one_or_more.ensures ∙ rw replied (more_are (settings_of a.configuration) a.facts (networks_in l) listed.0 listed.1 listed.2)
