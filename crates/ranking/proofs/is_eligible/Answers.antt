-- `ranking::is_eligible` meets its contract: the network must be offered, and then not be barred.
use mathlib.Core.Bool.{not}
use mathlib.Core.Path.{sym, ap, ◌∙◌}
use Rattle.config.specs.Settings.{plmn_in}
use Rattle.preference.specs.Preference.{eligible, unbarred}
use Rattle.ranking.proofs.is_eligible.Goals as goal

pub returns-then-is_offered : goal.returns-then-is_offered
unfolding eligible unbarred plmn_in
returns-then-is_offered c = rw (sym c.is_offered.ensures ∙ c.if-is_offered.true) (ap not c.is_barred.ensures)

pub returns-else-is_offered : goal.returns-else-is_offered
unfolding eligible unbarred plmn_in
returns-else-is_offered c = rw (sym c.is_offered.ensures ∙ c.if-is_offered.false) c.if-is_offered.false
