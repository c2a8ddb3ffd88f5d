-- `ranking::is_barred` meets its contract: the forbidden list is gone through.
use Rattle.preference.specs.Preference.{barred}
use Rattle.config.specs.Settings.{settings_of}
use Rattle.ranking.proofs.is_barred.Goals as goal

pub returns : goal.returns
unfolding barred settings_of
returns c = c.has_preferred.ensures
