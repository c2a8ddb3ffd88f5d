-- Selection stops exactly where the step reached has nothing that is permitted.
use Rattle.std.specs.Prelude.{Option, None, Some}
use Prim.Native.Nat.{ℕ}
use mathlib.Core.Bool.{Bool, true, false, cond, not, ◌&&◌, ◌||◌, false≢true, true≢false}
use mathlib.Core.List.{List, [], ◌∷◌}
use mathlib.Core.Path.{◌≡◌, refl, sym, ap, ap₂, ◌∙◌}
use lib.Dec.{eqb}
use lib.ListN.{drop}
use Rattle.octets.specs.Search.{any_of}
use Rattle.octets.specs.Row.{place, first, keep, only}
use Rattle.octets.proofs.Search.{or_true}
use Rattle.network.specs.Plmn.{same_plmn, among}
use Rattle.network.specs.declared.Plmn.{Plmn}
use Rattle.network.proofs.Plmns.{self_plmn, plmn_same}
use Rattle.address.specs.Address.{number_of, permitted, same_address, stands, version_of}
use Rattle.address.specs.declared.Address.{Address}
use Rattle.address.proofs.Numbers.{same_parts, same_self}
use Rattle.entry.specs.declared.field.Preferred.{Preferred}
use Rattle.config.specs.Settings.{plmn_in, Settings}
use Rattle.config.specs.declared.Node.{Node}
use Rattle.preference.specs.Preference.{unbarred, offered, eligible, best, network_of, ranked, unranked}
use Rattle.place.specs.declared.Place.{Place}
use Rattle.place.specs.declared.Place.TheVariants.{Unknown, Home, Abroad}
use Rattle.gateway.specs.Gateway.{found_at, choose}
use Rattle.selection.specs.Selection.{registered, by_node, at_home, direct, abroad, start_at, start, ask_or, if_listed, none_listed, one_or_more, country}
use Rattle.selection.specs.Stops.{home_reached, start_reached, last_reached, country_reached, addresses, networks, Ends, stop_found, stop_of, Exactly, StopsExactly}
use Rattle.selection.specs.declared.Choice.TheVariants.{Stop, Country, Network}
use Rattle.place.specs.declared.Facts.{Facts}
use Rattle.selection.specs.declared.Stop.TheVariants as At

-- a number that is there
valued : Option ℕ → Bool
valued None = false
valued (Some n) = true

has_plmn : Option Plmn → Bool
has_plmn None = false
has_plmn (Some p) = true

not_there : {n : ℕ} → None ≡ Some n → ⊥
unfolding valued
not_there e = false≢true (ap valued e)

plmn_there : {p : Plmn} → Some p ≡ None → ⊥
unfolding has_plmn
plmn_there e = true≢false (ap has_plmn e)

same_number : {m n : ℕ} → Some m ≡ Some n → n ≡ m
same_number e = cc

-- no stop where a name is asked, and one stop at a step that always stops
asking : Exactly (λ n. ⊥) None
asking = record { only_there = λ n e. not_there e; always_there = λ n h. absurd h }

stopping : (m : ℕ) → Exactly (λ n. n ≡ m) (Some m)
stopping m = record { only_there = λ n e. same_number e; always_there = λ n e. ap Some (sym e) }

-- of the same address both or neither are permitted
same_permitted : (version : ℕ) (held : List Address) (a b : Address) → same_address a b ≡ true → permitted version held a ≡ permitted version held b
unfolding permitted stands same_address
same_permitted version held a b e =
    let parts = same_parts a b e in
    ap₂ (λ (v n : ℕ). eqb v version && not (any_of (λ (x : Address). eqb v (version_of x) && eqb n (number_of x)) held)) parts.0 parts.1

-- S5: nothing is chosen exactly where no address of the list is permitted
module _ (version : ℕ) (held : List Address) where
  abbrev p : Address → Bool
  p = permitted version held

  abbrev left : ℕ → List Address → Option ℕ
  left k xs = stop_found (found_at k (drop (place p xs) xs))

  abbrev fails : List Address → Type 0
  fails xs = (a : Address) → stands a xs ≡ true → p a ≡ false

  nothing_left : (k : ℕ) (xs : List Address) → fails xs → left k xs ≡ Some 4
  unfolding place found_at stop_found stands any_of
  nothing_left k [] h = refl
  nothing_left k (x ∷ xs) h =
      let barred-one : p x ≡ false = h x (ap (λ (t : Bool). t || stands x xs) (same_self x)) in
      rw barred-one (nothing_left k xs (λ a e. h a (or_true (same_address a x) (stands a xs) e)))

  none_permitted : (k n : ℕ) (xs : List Address) → left k xs ≡ Some n → (n ≡ 4) × fails xs
  unfolding place found_at stop_found stands any_of
  none_permitted k n [] e = (same_number e, λ a q. absurd (false≢true q))
  none_permitted k n (x ∷ xs) e = go (p x) refl (none_permitted k n xs)
    where
      go : (t : Bool) → p x ≡ t → (left k xs ≡ Some n → (n ≡ 4) × fails xs) → (n ≡ 4) × fails (x ∷ xs)
      go true q rec = absurd (not_there (sym (rw q) ∙ e))
      go false q rec =
          let rest = rec (sym (rw q) ∙ e) in
          (rest.0, λ a s. first_or_true a (same_address a x) refl s (rest.1 a))
        where
          first_or_true : (a : Address) (t : Bool) → same_address a x ≡ t → t || stands a xs ≡ true → (stands a xs ≡ true → p a ≡ false) → p a ≡ false
          first_or_true a true m s later = same_permitted version held a x m ∙ q
          first_or_true a false m s later = later s

  s5_exactly : (s : Settings) (xs : List Address) → Exactly (Ends s version held (addresses xs)) (stop_found (choose version held xs))
  unfolding choose
  s5_exactly s xs = record {
    only_there = λ n e. none_permitted (place p xs) n xs e;
    always_there = λ n h. nothing_left (place p xs) xs h.1 ∙ ap Some (sym h.0);
  }

module _ (s : Settings) (version : ℕ) (held : List Address) where
  -- S2
  home_exactly : (home : Plmn) (n : Option Node) → Exactly (Ends s version held (home_reached n)) (stop_of version held (by_node home n))
  unfolding home_reached by_node stop_of
  home_exactly home None = asking
  home_exactly home (Some (Node.Name at n)) = asking
  home_exactly home (Some (Node.Address a)) = s5_exactly version held s (a ∷ [])

  -- S3, and S4 up to its question
  abroad_exactly : (t : Bool) (p : Plmn) (mcc : ℕ) → Exactly (λ n. ⊥) (stop_of version held (cond t (Network p) (Country mcc)))
  unfolding stop_of
  abroad_exactly true p mcc = asking
  abroad_exactly false p mcc = asking

  place_exactly : (place : Place) (r : Option Plmn) → Exactly (Ends s version held (start_reached s place)) (stop_of version held (start_at s r place))
  unfolding start_reached start_at at_home abroad stop_of
  place_exactly Unknown r = stopping 1
  place_exactly Home r = home_exactly s.home s.node
  place_exactly (Abroad mcc) None = asking
  place_exactly (Abroad mcc) (Some p) = abroad_exactly (direct s p) p mcc

  -- S4 where none is listed
  last_exactly : (l : List Preferred) → Exactly (Ends s version held (last_reached l s.node)) (stop_of version held (ask_or (network_of (best l)) (at_home s)))
  unfolding last_reached best network_of ask_or at_home stop_of
  last_exactly [] = home_exactly s.home s.node
  last_exactly (x ∷ xs) = asking

  -- S4 where one or more are listed: a name is asked where one of three picks finds a network
  picked : (o₁ o₂ o₃ : Option Plmn) (n : ℕ) → stop_of version held (ask_or o₁ (ask_or o₂ (ask_or o₃ (Stop At.Barred)))) ≡ Some n → (n ≡ 3) × (o₃ ≡ None)
  unfolding ask_or stop_of
  picked (Some p) o₂ o₃ n e = absurd (not_there e)
  picked None (Some p) o₃ n e = absurd (not_there e)
  picked None None (Some p) n e = absurd (not_there e)
  picked None None None n e = (same_number e, refl)

module _ (s : Settings) where
  -- every listed network is barred
  abbrev barred_all : List Plmn → Type 0
  barred_all ps = (p : Plmn) → among p ps ≡ true → unbarred s p ≡ false

  none_free : (ps : List Plmn) → first (unbarred s) ps ≡ None → barred_all ps
  unfolding first among any_of
  none_free [] e = λ p h. absurd (false≢true h)
  none_free (q ∷ qs) e = go (unbarred s q) refl (none_free qs)
    where
      go : (t : Bool) → unbarred s q ≡ t → (first (unbarred s) qs ≡ None → barred_all qs) → barred_all (q ∷ qs)
      go true m rec = absurd (plmn_there {p = q} (sym (rw m) ∙ e))
      go false m rec = λ p h. first_or_true p (same_plmn p q) refl h (rec (sym (rw m) ∙ e) p)
        where
          first_or_true : (p : Plmn) (t : Bool) → same_plmn p q ≡ t → t || among p qs ≡ true → (among p qs ≡ true → unbarred s p ≡ false) → unbarred s p ≡ false
          first_or_true p true k h later = ap (unbarred s) (plmn_same p q k) ∙ m
          first_or_true p false k h later = later h

  module _ (ps : List Plmn) (all : barred_all ps) where
    free_none : (qs : List Plmn) → ((p : Plmn) → among p qs ≡ true → among p ps ≡ true) → first (unbarred s) qs ≡ None
    unfolding first among any_of
    free_none [] within = refl
    free_none (q ∷ qs) within =
        let barred-one : unbarred s q ≡ false = all q (within q (ap (λ (t : Bool). t || among q qs) (self_plmn q))) in
        rw barred-one (free_none qs (λ p e. within p (or_true (same_plmn p q) (among p qs) e)))

    listed_none : (p : Plmn) → among p ps && unbarred s p ≡ false
    listed_none p = go (among p ps) refl
      where
        go : (t : Bool) → among p ps ≡ t → t && unbarred s p ≡ false
        go true e = all p e
        go false e = refl

    registered_none : (r : Option Plmn) → if_listed s r ps ≡ None
    unfolding if_listed
    registered_none None = refl
    registered_none (Some p) = rw (listed_none p)

  module _ (q : Plmn) (qs : List Plmn) (place : Place) (all : barred_all (q ∷ qs)) where
    eligible_none : (l : List Preferred) → only (eligible s (q ∷ qs) place) l ≡ []
    unfolding only keep eligible offered
    eligible_none [] = refl
    eligible_none (x ∷ l) = rw (listed_none (q ∷ qs) all (plmn_in x)) (eligible_none l)

    ranked_none : ranked s (q ∷ qs) place ≡ None
    unfolding ranked best network_of
    ranked_none = rw (eligible_none s.plmns)

  module _ (version : ℕ) (held : List Address) (f : Facts) (q : Plmn) (qs : List Plmn) where
    listed_exactly : Exactly (Ends s version held (networks (q ∷ qs))) (stop_of version held (one_or_more s f (q ∷ qs)))
    unfolding one_or_more unranked ask_or stop_of
    listed_exactly = record {
      only_there = λ n e.
          let p = picked s version held (if_listed s (registered s f) (q ∷ qs)) (ranked s (q ∷ qs) f.place) (first (unbarred s) (q ∷ qs)) n e in
          (p.0, none_free (q ∷ qs) p.1);
      always_there = λ n h.
          rw (registered_none (q ∷ qs) h.1 (registered s f), ranked_none q qs f.place h.1, free_none (q ∷ qs) h.1 (q ∷ qs) (λ p e. e)) (ap Some (sym h.0));
    }

pub stops_exactly : StopsExactly
unfolding start country country_reached none_listed ranked stop_of
stops_exactly = record {
  at_start = λ s f held. place_exactly s f.version held f.place (registered s f);
  at_country = λ s f held answer. go s f held answer;
  at_address = λ s version held xs. s5_exactly version held s xs;
}
  where
    go : (s : Settings) (f : Facts) (held : List Address) (answer : Option (List Plmn))
        → Exactly (Ends s f.version held (country_reached s f.place answer)) (stop_of f.version held (country s f answer))
    go s f held None = stopping 2
    go s f held (Some []) = last_exactly s f.version held (only (eligible s [] f.place) s.plmns)
    go s f held (Some (q ∷ qs)) = listed_exactly s f.version held f q qs
