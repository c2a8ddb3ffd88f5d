-- `choosing::counting` meets its contract: the home PLMN counts as none.
use Rattle.std.specs.Prelude.{None, Some, MatchOption}
use mathlib.Core.Bool.{cond, not}
use mathlib.Core.Path.{◌≡◌}
use borrow.Author.Rules.{rules}
use Rattle.network.specs.Plmn.{same_plmn}
use Rattle.config.specs.Settings.{settings_of}
use Rattle.choosing.proofs.Kept.{away}
use Rattle.choosing.proofs.counting.Goals as goal

pub returns : goal.returns
unfolding same_plmn settings_of
returns c =
    let s = settings_of c.args.configuration in
    let kept : MatchOption c.args.registered (c.filter.result ≡ None) (λ p. c.filter.result ≡ cond (not (same_plmn p s.home)) (Some p) None) = search rules in
    away s c.args.registered c.filter.result kept
