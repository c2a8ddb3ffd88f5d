-- A name that is asked and stands in the text lies within it.
use Rattle.std.specs.Prelude.{Option, Some, None}
use Prim.Native.Nat.{ℕ}
use mathlib.Core.Bool.{Bool, true, false, cond}
use mathlib.Core.List.{List, [], ◌∷◌}
use mathlib.Core.Path.{◌≡◌, sym, subst}
use Rattle.network.specs.declared.Plmn.{Plmn}
use Rattle.config.specs.Settings.{Settings, settings_in, NodeWithin, Within}
use Rattle.config.specs.declared.Config.{Config}
use Rattle.config.specs.declared.Node.{Node}
use Rattle.entry.specs.declared.field.Preferred.{Preferred}
use Rattle.preference.specs.Preference.{ranked, unranked}
use Rattle.place.specs.declared.Place.{Place}
use Rattle.place.specs.declared.Place.TheVariants.{Unknown, Home, Abroad}
use Rattle.selection.specs.Selection.{abroad, ask_or, at_home, by_node, country, direct, if_listed, none_listed, one_or_more, registered, start, start_at}
use Rattle.selection.specs.declared.Choice.{Choice}
use Rattle.selection.specs.declared.Choice.TheVariants.{Stop, Country, Network}
use Rattle.selection.specs.declared.Stop.TheVariants as At
use Rattle.place.specs.declared.Facts.{Facts}
use Rattle.selection.specs.Query.{TextWithin}

module _ (text : List ℕ) where
  by_node_lem : (home : Plmn) (n : Option Node) → NodeWithin text n → TextWithin text (by_node home n)
  unfolding by_node
  by_node_lem home None w = tt
  by_node_lem home (Some (Node.Name at n)) w = w
  by_node_lem home (Some (Node.Address a)) w = tt

  ask_or_lem : (p : Option Plmn) (other : Choice) → TextWithin text other → TextWithin text (ask_or p other)
  unfolding ask_or
  ask_or_lem (Some p) other w = tt
  ask_or_lem None other w = w

  either : (b : Bool) (p : Plmn) (mcc : ℕ) → TextWithin text (cond b (Network p) (Country mcc))
  either true p mcc = tt
  either false p mcc = tt

  module _ (s : Settings) (within : NodeWithin text s.node) where
    at_home_lem : TextWithin text (at_home s)
    unfolding at_home
    at_home_lem = by_node_lem s.home s.node within

    gone_abroad : (r : Option Plmn) (mcc : ℕ) → TextWithin text (abroad s r mcc)
    unfolding abroad
    gone_abroad None mcc = tt
    gone_abroad (Some p) mcc = either (direct s p) p mcc

    at_place : (r : Option Plmn) (place : Place) → TextWithin text (start_at s r place)
    unfolding start_at
    at_place r Unknown = tt
    at_place r Home = at_home_lem
    at_place r (Abroad mcc) = gone_abroad r mcc

    of_start : (f : Facts) → TextWithin text (start s f)
    unfolding start
    of_start f = at_place (registered s f) f.place

    of_country : (f : Facts) (answer : Option (List Plmn)) → TextWithin text (country s f answer)
    unfolding country none_listed one_or_more
    of_country f None = tt
    of_country f (Some []) = ask_or_lem (ranked s [] f.place) (at_home s) at_home_lem
    of_country f (Some (p ∷ ps)) =
        ask_or_lem (if_listed s (registered s f) (p ∷ ps)) _
        (ask_or_lem (ranked s (p ∷ ps) f.place) _ (ask_or_lem (unranked s (p ∷ ps)) (Stop At.Barred) tt))

-- a configuration that was read from the text, with its lists
module _ (text : List ℕ) (ps bs : List Preferred) (c : Config) (within : Within text ps bs c) where
  name_within : NodeWithin text (settings_in ps bs c).node
  unfolding settings_in
  name_within = within.name_within

  -- what start comes to
  pub start_within : (s : Settings) (f : Facts) (r : Choice) → s ≡ settings_in ps bs c → r ≡ start s f → TextWithin text r
  start_within s f r same e =
      subst (TextWithin text) (sym e) (subst (λ (t : Settings). TextWithin text (start t f)) (sym same) (of_start text (settings_in ps bs c) name_within f))

  -- what the country answer comes to
  pub country_within : (s : Settings) (f : Facts) (answer : Option (List Plmn)) (r : Choice) → s ≡ settings_in ps bs c → r ≡ country s f answer → TextWithin text r
  country_within s f answer r same e =
      subst (TextWithin text) (sym e) (subst (λ (t : Settings). TextWithin text (country t f answer)) (sym same) (of_country text (settings_in ps bs c) name_within f answer))
