-- What is asked for or chosen at home, and the network that is asked for abroad: the registered PLMN where it counts, and the other picks where it does not.
use Rattle.std.specs.Prelude.{Option, None, Some}
use Prim.Native.Nat.{ℕ}
use mathlib.Core.Bool.{Bool, true, false, cond, not, ◌&&◌, false≢true}
use mathlib.Core.List.{List, [], ◌∷◌}
use mathlib.Core.Path.{◌≡◌, refl, sym, ap, ◌∙◌, subst}
use borrow.Author.Tests.{not-true}
use Rattle.octets.proofs.Search.{and_left, and_right, and_true}
use Rattle.network.specs.Plmn.{same_plmn, among}
use Rattle.network.specs.declared.Plmn.{Plmn}
use Rattle.network.proofs.Plmns.{self_plmn, plmn_same}
use Rattle.config.specs.Settings.{Settings}
use Rattle.config.specs.declared.Node.{Node}
use Rattle.place.specs.declared.Facts.{Facts}
use Rattle.place.specs.declared.Place.TheVariants.{Home, Abroad}
use Rattle.preference.specs.Preference.{provisioned, barred, unbarred, preferred, ranked, unranked}
use Rattle.selection.specs.Networks.{Registered, AtHome, AtOnce, Listed, unregistered, to_address, to_name_lem, to_operator, NetworkExactly}
use Rattle.selection.specs.Selection.{counting, registered, at_home, by_node, direct, abroad, start_at, start, ask_or, if_listed, none_listed, one_or_more, country}
use Rattle.selection.specs.declared.Choice.TheVariants.{Stop, Country, Network}
use Rattle.std.proofs.lemmas.Option.{none-some, same_Some}
use Rattle.selection.specs.declared.Stop.TheVariants as At

module _ (s : Settings) (f : Facts) where
  -- a PLMN that is the home PLMN counts as none, and any other counts
  home_none : f.registered ≡ Some s.home → registered s f ≡ None
  unfolding registered counting
  home_none e = rw (e, self_plmn s.home)

  other_counts : (p : Plmn) → f.registered ≡ Some p → (p ≡ s.home → ⊥) → registered s f ≡ Some p
  unfolding registered counting
  other_counts p e away = rw e (go (same_plmn p s.home) refl)
    where
      go : (t : Bool) → same_plmn p s.home ≡ t → cond t None (Some p) ≡ Some p
      go true q = absurd (away (plmn_same p s.home q))
      go false q = refl

  -- what counts is the registered PLMN, and not the home PLMN
  counted : (p : Plmn) → registered s f ≡ Some p → (f.registered ≡ Some p) × (p ≡ s.home → ⊥)
  unfolding registered counting
  counted p e = go f.registered refl e
    where
      other : (r : Plmn) (t : Bool) → same_plmn r s.home ≡ t → cond t None (Some r) ≡ Some p → (r ≡ p) × (p ≡ s.home → ⊥)
      other r true q c = absurd (none-some p c)
      other r false q c =
          let same : r ≡ p = same_Some r p c in
          (same, λ h. false≢true (sym q ∙ ap (same_plmn r) (sym (same ∙ h)) ∙ self_plmn r))

      go : (m : Option Plmn) → f.registered ≡ m → counting s m ≡ Some p → (f.registered ≡ Some p) × (p ≡ s.home → ⊥)
      go (Some r) g c = let o = other r (same_plmn r s.home) refl c in (g ∙ ap Some o.0, o.1)
      go None g c = absurd (none-some p c)

  -- a registered PLMN that counts and is not barred
  registration_of : (p : Plmn) → registered s f ≡ Some p → unbarred s p ≡ true → Registered s f p
  unfolding unbarred barred
  registration_of p e free = let c = counted p e in record { is = c.0; away = c.1; not_barred = not-true (among p s.bars) free }

  free_of : (p : Plmn) → Registered s f p → unbarred s p ≡ true
  unfolding unbarred barred
  free_of p r = ap not r.not_barred

  -- S3
  direct_is : (p : Plmn) → AtOnce s f p → direct s p ≡ true
  unfolding direct
  direct_is p a = and_true (provisioned s && unbarred s p) (preferred s p) (and_true (provisioned s) (unbarred s p) a.provisions (free_of p a.registration)) a.has_record

  is_direct : (p : Plmn) → registered s f ≡ Some p → direct s p ≡ true → AtOnce s f p
  unfolding direct
  is_direct p e d =
      let both = and_left (provisioned s && unbarred s p) (preferred s p) d in
      record {
        provisions = and_left (provisioned s) (unbarred s p) both;
        registration = registration_of p e (and_right (provisioned s) (unbarred s p) both);
        has_record = and_right (provisioned s && unbarred s p) (preferred s p) d;
      }

  module _ (mcc : ℕ) (here : f.place ≡ Abroad mcc) where
    at_once : (p : Plmn) → AtOnce s f p → start s f ≡ Network p
    unfolding start start_at abroad
    at_once p a =
        ap (start_at s (registered s f)) here ∙ ap (λ (r : Option Plmn). abroad s r mcc) (other_counts p a.registration.is a.registration.away) ∙ rw (direct_is p a)

    by_country : ((p : Plmn) → AtOnce s f p → ⊥) → start s f ≡ Country mcc
    unfolding start start_at abroad
    by_country missing = ap (start_at s (registered s f)) here ∙ go (registered s f) refl
      where
        go : (r : Option Plmn) → registered s f ≡ r → abroad s r mcc ≡ Country mcc
        go None e = refl
        go (Some p) e = test (direct s p) refl
          where
            test : (t : Bool) → direct s p ≡ t → cond (direct s p) (Network p) (Country mcc) ≡ Country mcc
            test true d = absurd (missing p (is_direct p e d))
            test false d = rw d

  -- S4 where one or more are listed
  module _ (ps : List Plmn) where
    listed_some : (p : Plmn) → Listed s f ps p → if_listed s (registered s f) ps ≡ Some p
    unfolding if_listed
    listed_some p l = rw (other_counts p l.registration.is l.registration.away, l.in_list, free_of p l.registration)

    listed_none : ((p : Plmn) → Listed s f ps p → ⊥) → if_listed s (registered s f) ps ≡ None
    unfolding if_listed
    listed_none missing = go (registered s f) refl
      where
        go : (r : Option Plmn) → registered s f ≡ r → if_listed s r ps ≡ None
        go None e = refl
        go (Some p) e = test (among p ps && unbarred s p) refl
          where
            test : (t : Bool) → among p ps && unbarred s p ≡ t → cond (among p ps && unbarred s p) (Some p) None ≡ None
            test true d = absurd (missing p (record { registration = registration_of p e (and_right (among p ps) (unbarred s p) d); in_list = and_left (among p ps) (unbarred s p) d }))
            test false d = rw d

  module _ (q : Plmn) (qs : List Plmn) where
    by_registration : (p : Plmn) → Listed s f (q ∷ qs) p → country s f (Some (q ∷ qs)) ≡ Network p
    unfolding country one_or_more ask_or
    by_registration p l = rw (listed_some (q ∷ qs) p l)

    module _ (missing : (r : Plmn) → Listed s f (q ∷ qs) r → ⊥) where
      by_priority : (p : Plmn) → ranked s (q ∷ qs) f.place ≡ Some p → country s f (Some (q ∷ qs)) ≡ Network p
      unfolding country one_or_more ask_or
      by_priority p e = rw (listed_none (q ∷ qs) missing, e)

      module _ (unranked-one : ranked s (q ∷ qs) f.place ≡ None) where
        by_order : (p : Plmn) → unranked s (q ∷ qs) ≡ Some p → country s f (Some (q ∷ qs)) ≡ Network p
        unfolding country one_or_more ask_or
        by_order p e = rw (listed_none (q ∷ qs) missing, unranked-one, e)

        none_left : unranked s (q ∷ qs) ≡ None → country s f (Some (q ∷ qs)) ≡ Stop At.Barred
        unfolding country one_or_more ask_or
        none_left e = rw (listed_none (q ∷ qs) missing, unranked-one, e)

  -- the home PLMN counts as none
  module _ (home : f.registered ≡ Some s.home) where
    same_registered : registered s f ≡ registered s (unregistered f)
    unfolding registered counting unregistered
    same_registered = home_none home

    home_at_start : start s f ≡ start s (unregistered f)
    unfolding start unregistered
    home_at_start = ap (λ (r : Option Plmn). start_at s r f.place) same_registered

    home_at_country : (answer : Option (List Plmn)) → country s f answer ≡ country s (unregistered f) answer
    unfolding country one_or_more none_listed unregistered
    home_at_country None = refl
    home_at_country (Some []) = refl
    home_at_country (Some (q ∷ qs)) =
        ap (λ (r : Option Plmn). ask_or (if_listed s r (q ∷ qs)) (ask_or (ranked s (q ∷ qs) f.place) (ask_or (unranked s (q ∷ qs)) (Stop At.Barred)))) same_registered

-- S2, at home and where a country answer lists none that has a record
by_node_lem : (s : Settings) (n : Option Node) → s.node ≡ n → AtHome s (by_node s.home n)
unfolding by_node
by_node_lem s (Some (Node.Address a)) e = to_address e
by_node_lem s (Some (Node.Name at n)) e = to_name_lem e
by_node_lem s None e = to_operator e

at_home_lem : (s : Settings) (f : Facts) → f.place ≡ Home → AtHome s (start s f)
unfolding start start_at at_home
at_home_lem s f e = subst (AtHome s) (sym (ap (start_at s (registered s f)) e)) (by_node_lem s s.node refl)

none_listed_lem : (s : Settings) (f : Facts) (p : Plmn) → ranked s [] f.place ≡ Some p → country s f (Some []) ≡ Network p
unfolding country none_listed ask_or
none_listed_lem s f p e = rw e

none_ranked : (s : Settings) (f : Facts) → ranked s [] f.place ≡ None → AtHome s (country s f (Some []))
unfolding country none_listed ask_or at_home
none_ranked s f e = rw e (by_node_lem s s.node refl)

pub network_exactly : NetworkExactly
network_exactly = record {
  home_at_start = home_at_start;
  home_at_country = λ s f answer home. home_at_country s f home answer;
  at_home_lem = at_home_lem;
  at_once = at_once;
  by_country = by_country;
  by_registration = by_registration;
  by_priority = by_priority;
  by_order = by_order;
  none_left = none_left;
  none_listed_lem = none_listed_lem;
  none_ranked = none_ranked;
}
