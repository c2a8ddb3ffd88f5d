-- `config::Config::lent` meets its contract: a list up to its count is what was counted.
use Rattle.std.proofs.Common.{rules}
use Rattle.config.specs.Settings.{settings_in, settings_of}
use Rattle.config.proofs.Config.lent.Goals as goal

pub returns : goal.returns
unfolding settings_in settings_of
returns c = search rules
