-- `entries::list::has_preferred` meets its contract: a PLMN among the listed ones is the same.
use Rattle.std.proofs.Common.{◌≡◌, Bool, ◌||◌, List, [], ◌∷◌, map, refl, ap, ◌∙◌, rules, tests}
use Rattle.std.specs.List.{list_any}
use Rattle.std.proofs.lemmas.Iterator.{YieldsList-from_slice}
use Rattle.std.proofs.lemmas.Iterator.Search.{any_from_yields_List}
use Rattle.octets.specs.Search.{any_of}
use Rattle.network.specs.Plmn.{among, same_plmn}
use Rattle.network.specs.declared.Plmn.{Plmn}
use Rattle.entry.specs.declared.field.Preferred.{Preferred}
use Rattle.config.specs.Settings.{plmn_in}
use Rattle.entries.proofs.list.has_preferred.Goals as goal

is_listed : Plmn → Preferred → Bool
is_listed p x = same_plmn p x.plmn

listed_among : (p : Plmn) (xs : List Preferred) → list_any (is_listed p) xs ≡ among p (map plmn_in xs)
unfolding among any_of plmn_in is_listed
listed_among p [] = refl
listed_among p (x ∷ xs) = ap (λ (t : Bool). same_plmn p x.plmn || t) (listed_among p xs)

pub returns : goal.returns
unfolding is_listed same_plmn
returns c =
    let a = c.args in
    any_from_yields_List (is_listed a.p) _ _ _ c.any.ensures.ran (YieldsList-from_slice a.list.now cc) (λ x b q k. search (rules, tests)) ∙ listed_among a.p a.list.now
