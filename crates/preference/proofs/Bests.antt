-- What is offered, in words; the best record of those that pass is of the lowest priority number and the earliest on a tie.
use Rattle.std.specs.Prelude.{Option, None, Some, slice_get}
use Prim.Native.Nat.{ℕ, zero, suc, ◌≤◌, ◌<◌}
use mathlib.Core.Bool.{Bool, true, false, cond, not, false≢true}
use mathlib.Core.List.{List, [], ◌∷◌, nil≢cons}
use mathlib.Core.Path.{◌≡◌, refl, sym, ap, ◌∙◌, subst}
use native.Mathlib.Omega.{arith}
use lib.Dec.{leb}
use borrow.Author.Tests.{eq-eqb, eqb-true, leb-true, leb-false, not-true}
use Rattle.octets.specs.Row.{first, keep, only, FirstAt, NonePasses}
use Rattle.octets.specs.Row as Row
use Rattle.octets.specs.Search.{any_of}
use Rattle.octets.proofs.Firsts.{place_first, place_past, first_place}
use Rattle.octets.proofs.Search.{and_left, and_right, and_true}
use Rattle.network.specs.Plmn.{among}
use Rattle.network.specs.declared.Plmn.{Plmn}
use Rattle.entry.specs.declared.field.Preferred.{Preferred}
use Rattle.config.specs.Settings.{plmn_in, Settings}
use Rattle.place.specs.declared.Place.{Place}
use Rattle.place.specs.declared.Place.TheVariants.{Unknown, Home, Abroad}
use Rattle.preference.specs.Preference.{barred, unbarred, visited, offered, eligible, better, best, network_of, ranked, unranked}
use Rattle.preference.specs.Laws.{OnOffer, listed, visiting, Candidate, BestAt, not_forbidden}
use Rattle.std.proofs.lemmas.Option.{none-some, same_Some}

-- a network has the visited MCC exactly of a place abroad with that MCC
visited_only : (place : Place) (p : Plmn) → visited place p ≡ true → place ≡ Abroad p.mcc
unfolding visited
visited_only Unknown p e = absurd (false≢true e)
visited_only Home p e = absurd (false≢true e)
visited_only (Abroad mcc) p e = ap Abroad (sym (eqb-true p.mcc mcc e))

visited_always : (place : Place) (p : Plmn) → place ≡ Abroad p.mcc → visited place p ≡ true
unfolding visited
visited_always place p e = rw e (eq-eqb p.mcc p.mcc refl)

pub offered_only : (ps : List Plmn) (place : Place) (p : Plmn) → offered ps place p ≡ true → OnOffer ps place p
unfolding offered
offered_only [] place p e = visiting refl (visited_only place p e)
offered_only (q ∷ qs) place p e = listed e

pub offered_always : (ps : List Plmn) (place : Place) (p : Plmn) → OnOffer ps place p → offered ps place p ≡ true
unfolding offered among any_of
offered_always [] place p (listed e) = absurd (false≢true e)
offered_always [] place p (visiting empty here) = visited_always place p here
offered_always (q ∷ qs) place p (listed e) = e
offered_always (q ∷ qs) place p (visiting empty here) = absurd (nil≢cons (sym empty))

-- a record that is offered and not barred is one that may be picked
module _ (s : Settings) (ps : List Plmn) (place : Place) (x : Preferred) where
  eligible_only : eligible s ps place x ≡ true → Candidate s ps place x
  unfolding eligible unbarred barred plmn_in
  eligible_only e = record {
    on_offer = offered_only ps place x.plmn (and_left (offered ps place x.plmn) (not_forbidden s x.plmn) e);
    not_barred = not-true (among x.plmn s.bars) (and_right (offered ps place x.plmn) (not_forbidden s x.plmn) e);
  }

  eligible_always : Candidate s ps place x → eligible s ps place x ≡ true
  unfolding eligible unbarred barred plmn_in
  eligible_always c = and_true (offered ps place x.plmn) (not_forbidden s x.plmn) (offered_always ps place x.plmn c.on_offer) (ap not c.not_barred)

-- of two records the earlier one where its priority number is not above the other's, and the later one where it is
better_is : {R : Type 0} (z y x : Preferred) → better z (Some y) ≡ x → (z ≡ x → z.priority ≤ y.priority → R) → (y ≡ x → y.priority < z.priority → R) → R
unfolding better
better_is {R} z y x e earlier later = go (leb z.priority y.priority) refl e
  where
    go : (t : Bool) → leb z.priority y.priority ≡ t → cond t z y ≡ x → R
    go true n q = earlier q (leb-true z.priority y.priority n)
    go false n q = later q (leb-false z.priority y.priority n)

-- the best of the records that pass
module _ (p : Preferred → Bool) where
  abbrev passing : Preferred → Type 0
  passing x = p x ≡ true

  -- one record more in front
  module _ (z : Preferred) (l : List Preferred) where
    -- it is the best
    ahead : passing z → ((j : ℕ) (y : Preferred) → slice_get l j ≡ Some y → passing y → z.priority ≤ y.priority) → BestAt passing (z ∷ l) 0 z
    ahead m h = record { there = refl; picked = m; none_better = least; earliest = λ j y less q t. absurd (omega arith) }
      where
        least : (j : ℕ) (y : Preferred) → slice_get (z ∷ l) j ≡ Some y → passing y → z.priority ≤ y.priority
        least zero y q t = let same : z.priority ≡ y.priority = ap (λ (x : Preferred). x.priority) (same_Some z y q) in omega arith
        least (suc j) y q t = h j y q t

    -- the best stands behind it
    behind : (i : ℕ) (x : Preferred) → (passing z → x.priority < z.priority) → BestAt passing l i x → BestAt passing (z ∷ l) (suc i) x
    behind i x above b = record { there = b.there; picked = b.picked; none_better = least; earliest = before }
      where
        before : (j : ℕ) (y : Preferred) → j < suc i → slice_get (z ∷ l) j ≡ Some y → passing y → x.priority < y.priority
        before zero y less q t =
            let same : z ≡ y = same_Some z y q in
            let one : x.priority < z.priority = above (ap p same ∙ t) in
            let number : z.priority ≡ y.priority = ap (λ (r : Preferred). r.priority) same in
            omega arith
        before (suc j) y less q t = b.earliest j y (omega arith) q t

        least : (j : ℕ) (y : Preferred) → slice_get (z ∷ l) j ≡ Some y → passing y → x.priority ≤ y.priority
        least zero y q t = let one = before zero y (omega arith) q t in omega arith
        least (suc j) y q t = b.none_better j y q t

  -- no record is best where none passes
  best_none : (l : List Preferred) → best (only p l) ≡ None → first p l ≡ None
  unfolding best only keep first
  best_none [] e = refl
  best_none (z ∷ l) e = go (p z) refl (best_none l)
    where
      go : (t : Bool) → p z ≡ t → (best (only p l) ≡ None → first p l ≡ None) → first p (z ∷ l) ≡ None
      go true m rec = absurd (none-some (better z (best (only p l))) (sym e ∙ rw m))
      go false m rec = rw m (rec (sym (rw m) ∙ e))

  none_passes : (l : List Preferred) → first p l ≡ None → NonePasses p l
  none_passes l e = (place_past p l (sym (first_place p l) ∙ e)).1

  best_at : (l : List Preferred) (x : Preferred) → best (only p l) ≡ Some x → (i : ℕ) × BestAt passing l i x
  unfolding best better only keep
  best_at [] x e = absurd (none-some x e)
  best_at (z ∷ l) x e = go (p z) refl (best_at l)
    where
      go : (t : Bool) → p z ≡ t → ((y : Preferred) → best (only p l) ≡ Some y → (i : ℕ) × BestAt passing l i y) → (i : ℕ) × BestAt passing (z ∷ l) i x
      go false m rec =
          let rest = rec x (sym (rw m) ∙ e) in
          (suc rest.0, behind z l rest.0 x (λ t. absurd (false≢true (sym m ∙ t))) rest.1)
      go true m rec = from (best (only p l)) refl
        where
          is_best : better z (best (only p l)) ≡ x
          is_best = same_Some (better z (best (only p l))) x (sym (rw m) ∙ e)

          front : z ≡ x → ((j : ℕ) (y : Preferred) → slice_get l j ≡ Some y → passing y → z.priority ≤ y.priority) → (i : ℕ) × BestAt passing (z ∷ l) i x
          front same h = (0, subst (λ (r : Preferred). BestAt passing (z ∷ l) 0 r) same (ahead z l m h))

          from : (o : Option Preferred) → best (only p l) ≡ o → (i : ℕ) × BestAt passing (z ∷ l) i x
          from None q = front (sym (ap (better z) q) ∙ is_best) (λ j y r t. absurd (false≢true (sym (none_passes l (best_none l q) j y r) ∙ t)))
          from (Some y) q =
              let rest = rec y q in
              better_is z y x (sym (ap (better z) q) ∙ is_best)
              (λ same least. front same (λ j w r t. let above = rest.1.none_better j w r t in omega arith))
              (λ same lower. (suc rest.0, subst (λ (r : Preferred). BestAt passing (z ∷ l) (suc rest.0) r) same (behind z l rest.0 y (λ t. lower) rest.1)))

-- records that pass are those that may be picked
carried : {M N : Preferred → Type 0} → ((y : Preferred) → M y → N y) → ((y : Preferred) → N y → M y) → (l : List Preferred) (i : ℕ) (x : Preferred) → BestAt M l i x → BestAt N l i x
carried to from l i x b = record {
  there = b.there;
  picked = to x b.picked;
  none_better = λ j y q n. b.none_better j y q (from y n);
  earliest = λ j y less q n. b.earliest j y less q (from y n);
}

-- the record of which a network is given
network_of_lem : (o : Option Preferred) (p : Plmn) → network_of o ≡ Some p → (x : Preferred) × (o ≡ Some x) × (x.plmn ≡ p)
unfolding network_of plmn_in
network_of_lem None p e = absurd (none-some p e)
network_of_lem (Some x) p e = (x, refl, same_Some x.plmn p e)

no_network_of : (o : Option Preferred) → network_of o ≡ None → o ≡ None
unfolding network_of
no_network_of None e = refl
no_network_of (Some x) e = absurd (none-some (plmn_in x) (sym e))

module _ (s : Settings) (ps : List Plmn) where
  module _ (place : Place) where
    pub ranked_exactly : (p : Plmn) → ranked s ps place ≡ Some p → (i : ℕ) × (x : Preferred) × (x.plmn ≡ p) × BestAt (Candidate s ps place) s.plmns i x
    unfolding ranked
    ranked_exactly p e =
        let found = network_of_lem (best (only (eligible s ps place) s.plmns)) p e in
        let at = best_at (eligible s ps place) s.plmns found.0 found.1 in
        (at.0, found.0, found.2, carried (eligible_only s ps place) (eligible_always s ps place) s.plmns at.0 found.0 at.1)

    pub ranked_none : ranked s ps place ≡ None → (j : ℕ) (y : Preferred) → slice_get s.plmns j ≡ Some y → Candidate s ps place y → ⊥
    unfolding ranked
    ranked_none e j y q c =
        let nothing = best_none (eligible s ps place) s.plmns (no_network_of (best (only (eligible s ps place) s.plmns)) e) in
        false≢true (sym (none_passes (eligible s ps place) s.plmns nothing j y q) ∙ eligible_always s ps place y c)

  pub unranked_exactly : (p : Plmn) → unranked s ps ≡ Some p → (i : ℕ) × FirstAt (not_forbidden s) ps i p
  unfolding unranked unbarred barred
  unranked_exactly p e = (Row.place (unbarred s) ps, place_first (unbarred s) ps p (sym (first_place (unbarred s) ps) ∙ e))

  pub unranked_none : unranked s ps ≡ None → NonePasses (not_forbidden s) ps
  unfolding unranked unbarred barred
  unranked_none e = (place_past (unbarred s) ps (sym (first_place (unbarred s) ps) ∙ e)).1
