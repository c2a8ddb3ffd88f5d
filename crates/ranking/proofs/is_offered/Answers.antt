-- `ranking::is_offered` meets its contract: a list of fewer than four octets has no network.
use mathlib.Core.Path.{◌∙◌}
use Rattle.ranking.proofs.Picks.{offers_visited, offers_listed}
use Rattle.ranking.proofs.is_offered.Goals as goal

pub returns-then-networks-lt-NETWORK : goal.returns-then-networks-lt-NETWORK
returns-then-networks-lt-NETWORK c =
    let a = c.args in
    c.is_visited.ensures ∙ offers_visited a.networks.now a.place a.p c.if-networks-lt-NETWORK.true

pub returns : goal.returns
returns c =
    let a = c.args in
    c.is_listed.ensures ∙ offers_listed a.networks.now a.place a.p c.if-networks-lt-NETWORK.false
