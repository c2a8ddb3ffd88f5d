-- `choosing::one_or_more` meets its contract: each network comes before the next.
use Rattle.std.specs.Prelude.{Option, None, Some}
use mathlib.Core.List.{List}
use mathlib.Core.Path.{◌≡◌, sym, ap, ◌∙◌}
use Rattle.config.specs.Settings.{Settings}
use Rattle.network.specs.declared.Plmn.{Plmn}
use Rattle.place.specs.declared.Facts.{Facts}
use Rattle.preference.specs.Preference.{ranked, unranked}
use Rattle.selection.specs.declared.Choice.TheVariants.{Network, Stop}
use Rattle.selection.specs.Selection.{ask_or, counting, if_listed, one_or_more, registered}
use Rattle.choosing.proofs.one_or_more.Goals as goal
use Rattle.selection.specs.declared.Stop.TheVariants as At

-- what was found, in their order
module _ (s : Settings) (f : Facts) (ps : List Plmn) (q : Option Plmn) (counts : q ≡ counting s f.registered) where
  found : (x : Option Plmn) → x ≡ if_listed s q ps → if_listed s (registered s f) ps ≡ x
  unfolding registered
  found x e = ap (λ (o : Option Plmn). if_listed s o ps) (sym counts) ∙ sym e

  registered_first : (p : Plmn) → Some p ≡ if_listed s q ps → Network p ≡ one_or_more s f ps
  unfolding one_or_more ask_or
  registered_first p e = sym (rw (found (Some p) e))

  module _ (unregistered : None ≡ if_listed s q ps) where
    best_second : (p : Plmn) → Some p ≡ ranked s ps f.place → Network p ≡ one_or_more s f ps
    unfolding one_or_more ask_or
    best_second p e = sym (rw (found None unregistered, sym e))

    any_third : None ≡ ranked s ps f.place → ask_or (unranked s ps) (Stop At.Barred) ≡ one_or_more s f ps
    unfolding one_or_more ask_or
    any_third e = sym (rw (found None unregistered, sym e))

pub returns-in-Some : goal.returns-in-Some
returns-in-Some c = registered_first _ _ _ _ c.counting-registered.ensures _ c.in-Some.ensures

pub returns-in-Some-ranked : goal.returns-in-Some-ranked
returns-in-Some-ranked c = best_second _ _ _ _ c.counting-registered.ensures c.in_default.ensures _ c.in-Some-ranked.ensures

pub returns : goal.returns
returns c =
    c.ask_or.ensures ∙ ap (λ (o : Option Plmn). ask_or o (Stop At.Barred)) c.unranked.ensures
    ∙ any_third _ _ _ _ c.counting-registered.ensures c.in_default.ensures c.in_default-ranked.ensures
