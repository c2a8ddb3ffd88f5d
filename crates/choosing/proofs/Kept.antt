-- What is kept of a network where there is one.
use Rattle.std.specs.Prelude.{Option, None, Some, MatchOption}
use Rattle.std.specs.Bool.{then_some}
use mathlib.Core.Bool.{Bool, true, false, cond, not, ◌&&◌}
use mathlib.Core.List.{List}
use mathlib.Core.Path.{◌≡◌, refl, sym, ◌∙◌}
use Rattle.network.specs.Plmn.{among, same_plmn}
use Rattle.network.specs.declared.Plmn.{Plmn}
use Rattle.config.specs.Settings.{Settings}
use Rattle.preference.specs.Preference.{unbarred}
use Rattle.selection.specs.Selection.{counting, if_listed}

-- the home PLMN counts as none
pub away : (s : Settings) (network kept : Option Plmn) → MatchOption network (kept ≡ None) (λ p. kept ≡ cond (not (same_plmn p s.home)) (Some p) None)
    → kept ≡ counting s network
unfolding counting
away s None kept e = e
away s (Some p) kept e = e ∙ go (same_plmn p s.home)
  where
    go : (t : Bool) → cond (not t) (Some p) None ≡ cond t None (Some p)
    go true = refl
    go false = refl

-- a registered PLMN that passes both tests is listed and not barred
pub listed : (s : Settings) (ps : List Plmn) (registered : Option Plmn) (p : Plmn) (t : Bool) → registered ≡ Some p → t ≡ among p ps && unbarred s p
    → then_some t p ≡ if_listed s registered ps
unfolding if_listed
listed s ps registered p t e f = go t f ∙ sym (rw e)
  where
    go : (b : Bool) → b ≡ among p ps && unbarred s p → then_some b p ≡ cond (among p ps && unbarred s p) (Some p) None
    go true f = sym (rw (sym f))
    go false f = sym (rw (sym f))
