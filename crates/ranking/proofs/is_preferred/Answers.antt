-- `ranking::is_preferred` meets its contract: the `plmn` records are gone through.
use Rattle.preference.specs.Preference.{preferred}
use Rattle.config.specs.Settings.{settings_of}
use Rattle.ranking.proofs.is_preferred.Goals as goal

pub returns : goal.returns
unfolding preferred settings_of
returns c = c.has_preferred.ensures
