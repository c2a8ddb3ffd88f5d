-- Choosing a gateway: what start, the country answer and the address answer come to.
use Rattle.std.specs.Prelude.{Option, None, Some}
use Prim.Native.Nat.{ℕ, suc, ◌*◌, ◌/◌}
use mathlib.Core.Bool.{Bool, true, false, cond, not, ◌&&◌}
use mathlib.Core.List.{List, [], ◌∷◌}
use mathlib.Core.Path.{◌≡◌, refl, ap, ◌∙◌}
use native.Mathlib.Nat.{div-mul-le_self}
use native.Mathlib.Omega.{arith}
use lib.Dec.{leb, eqb}
use lib.ListN.{length, drop}
use Rattle.octets.specs.Laws.{below}
use Rattle.octets.specs.Row.{place}
use Rattle.octets.specs.Search.{all_of}
use Rattle.octets.proofs.Rows.{row_passes}
use Rattle.octets.proofs.Search.{and_left, and_right, and_true, cond_passes}
use Rattle.address.specs.Address.{held_addresses, is_version, permitted, stands, version_of}
use Rattle.address.specs.declared.Address.{Address}
use Rattle.addresses.specs.Laws.{address_storable}
use Rattle.addresses.proofs.RoundTrip as Addresses
use Rattle.config.specs.Settings.{Settings}
use Rattle.config.specs.declared.Node.{Node}
use Rattle.gateway.specs.Gateway.{choose, found_at}
use Rattle.lists.specs.Lists.{address_at, addresses_in}
use Rattle.network.specs.declared.Plmn.{Plmn}
use Rattle.phase.specs.Chosen.{chosen}
use Rattle.phase.specs.Facts.{facts_fit, place_fits, registered_fits}
use Rattle.phase.specs.Laws.{phase_storable}
use Rattle.phase.specs.Phase.{is_abroad, phase_fits}
use Rattle.phase.specs.Stage.{is_in}
use Rattle.phase.specs.Stage as Stage
use Rattle.phase.specs.declared.Phase.TheVariants.{Country, Name, Chosen}
use Rattle.place.specs.declared.Facts.{Facts}
use Rattle.place.specs.declared.Place.{Place}
use Rattle.place.specs.declared.Place.TheVariants.{Unknown, Home, Abroad}
use Rattle.preference.specs.Preference.{ranked, unranked}
use Rattle.record.specs.Changes.{in_phase}
use Rattle.record.specs.Line.{Line}
use Rattle.record.specs.Sound.{chosen_free}
use Rattle.selection.specs.Selection as Selection
use Rattle.selection.specs.declared.Choice.{Choice}
use Rattle.rules.specs.Call.{facts_of, start_numbers_fit, place_of, registered_of}
use Rattle.rules.specs.declared.StartNumbers.{StartNumbers}
use Rattle.rules.specs.Life.{address_answered, country_answered, name_asked, decided, gateway_found, goes, started}
use Rattle.rules.specs.Phases.{facts_in}
use Rattle.rules.proofs.Moves.{moves, rests, room_left}
use Rattle.rules.proofs.Nodes.{node_storable, settings_storable}
use Rattle.rules.proofs.Phases.{facts_busy, facts_fit_lem}
use Rattle.rules.proofs.Valid.{Valid}
use Rattle.selection.specs.declared.Stop.TheVariants as At

-- a choice that leaves a valid line with these place facts
allowed : Facts → Choice → Bool
allowed f (Choice.Stop n) = true
allowed f (Choice.Country mcc) = facts_fit f && is_abroad f.place
allowed f (Choice.Text at n) = facts_fit f
allowed f (Choice.Network p) = facts_fit f
allowed f (Choice.Address a) = address_storable a

-- place facts in their ranges allow what selection chooses
module _ (f : Facts) (s : Settings) (node : node_storable s.node ≡ true) where
  -- S2: a `node` address, a name or the home PLMN
  by_node_lem : (n : Option Node) → node_storable n ≡ true → facts_fit f ≡ true → allowed f (Selection.by_node s.home n) ≡ true
  unfolding Selection.by_node allowed node_storable
  by_node_lem None h k = k
  by_node_lem (Some (Node.Name at n)) h k = k
  by_node_lem (Some (Node.Address a)) h k = h

  at_home_lem : facts_fit f ≡ true → allowed f (Selection.at_home s) ≡ true
  unfolding Selection.at_home
  at_home_lem k = by_node_lem s.node node k

  -- S3 and S4: a registered PLMN or the visited country, which only a place abroad has
  abroad : (r : Option Plmn) (mcc : ℕ) → facts_fit f ≡ true → is_abroad f.place ≡ true → allowed f (Selection.abroad s r mcc) ≡ true
  unfolding Selection.abroad allowed
  abroad None mcc k e = and_true (facts_fit f) (is_abroad f.place) k e
  abroad (Some p) mcc k e =
      cond_passes (allowed f) (Selection.direct s p) (Choice.Network p) (Choice.Country mcc) k (and_true (facts_fit f) (is_abroad f.place) k e)

  ask_or_lem : (o : Option Plmn) (c : Choice) → facts_fit f ≡ true → allowed f c ≡ true → allowed f (Selection.ask_or o c) ≡ true
  unfolding Selection.ask_or allowed
  ask_or_lem None c k h = h
  ask_or_lem (Some p) c k h = k

  -- S4: the country answer never asks for the country again
  country_allowed : facts_fit f ≡ true → (ps : Option (List Plmn)) → allowed f (Selection.country s f ps) ≡ true
  unfolding Selection.country Selection.none_listed Selection.one_or_more allowed
  country_allowed k None = refl
  country_allowed k (Some []) = ask_or_lem (ranked s [] f.place) (Selection.at_home s) k (at_home_lem k)
  country_allowed k (Some (p ∷ ps)) =
      let third = unranked s (p ∷ ps) in
      let second = ranked s (p ∷ ps) f.place in
      let first = Selection.if_listed s (Selection.registered s f) (p ∷ ps) in
      let last = Selection.ask_or third (Choice.Stop At.Barred) in
      ask_or_lem first (Selection.ask_or second last) k (ask_or_lem second last k (ask_or_lem third (Choice.Stop At.Barred) k refl))

-- a place in its range, or none that is known
known : Place → Bool
known Unknown = true
known Home = place_fits Home
known (Abroad mcc) = place_fits (Abroad mcc)

-- what the numbers of a start say is in its range
record Ranged (f : Facts) : Type 0 where
  place_known : known f.place ≡ true
  registered_fits_lem : registered_fits f.registered ≡ true
  version_fits : is_version f.version ≡ true

-- the numbers of a start that aren't refused by 8
given_ranged : (g : StartNumbers) → start_numbers_fit g ≡ true → Ranged (facts_of g)
unfolding start_numbers_fit facts_of place_of registered_of known place_fits registered_fits
given_ranged g h =
    let mcc : leb g.mcc 999 ≡ true = search (and_left, and_right) depth 9 in
    let first : leb g.registered_mcc 999 ≡ true = search (and_left, and_right) depth 9 in
    let second : leb g.registered_mnc 999 ≡ true = search (and_left, and_right) depth 9 in
    record {
      place_known =
          cond_passes known (eqb g.place 1) Home (cond (eqb g.place 2) (Abroad g.mcc) Unknown) refl
          (cond_passes known (eqb g.place 2) (Abroad g.mcc) Unknown mcc refl);
      registered_fits_lem =
          cond_passes registered_fits (eqb g.registered 1) (Some (record { mcc = g.registered_mcc; mnc = g.registered_mnc })) None
          (and_true (leb g.registered_mcc 999) (leb g.registered_mnc 999) first second) refl;
      version_fits = search (and_left, and_right) depth 9;
    }

module _ (f : Facts) (r : Ranged f) (s : Settings) (node : node_storable s.node ≡ true) where
  place_fits_lem : place_fits f.place ≡ true → facts_fit f ≡ true
  unfolding facts_fit
  place_fits_lem h = rw (h, r.registered_fits_lem, r.version_fits)

  start_at_lem : (o : Option Plmn) (q : Place) → f.place ≡ q → known q ≡ true → allowed f (Selection.start_at s o q) ≡ true
  unfolding Selection.start_at known allowed is_abroad
  start_at_lem o Unknown e h = refl
  start_at_lem o Home e h = at_home_lem f s node (place_fits_lem (ap place_fits e ∙ h))
  start_at_lem o (Abroad mcc) e h = abroad f s node o mcc (place_fits_lem (ap place_fits e ∙ h)) (ap is_abroad e)

  -- whatever start comes to is allowed
  start_allowed : allowed f (Selection.start s f) ≡ true
  unfolding Selection.start
  start_allowed = start_at_lem (Selection.registered s f) f.place refl r.place_known

-- a line that isn't live
module _ (x : Line) (v : Valid x) (calm : is_in Stage.live x.phase ≡ false) where
  -- with room for one hold more
  module _ (room : leb (length x.holds) 7 ≡ true) where
    -- S5: what is chosen is permitted
    module _ (version : ℕ) where
      abbrev p : Address → Bool
      p = permitted version (held_addresses x.holds)

      permitted_valid : (a : Address) → address_storable a ≡ true → p a ≡ true → Valid (in_phase x (Chosen a))
      unfolding permitted phase_fits phase_storable is_in chosen_free chosen
      permitted_valid a h e =
          moves x v calm (Chosen a) (record { fits = refl; storable = h }) room (and_right (eqb (version_of a) version) (not (stands a (held_addresses x.holds))) e)

      -- the first address that is permitted, or none
      found_valid : (k : ℕ) (l : List Address) → all_of address_storable l ≡ true → Valid (gateway_found x (found_at k (drop (place p l) l))).line
      unfolding place found_at gateway_found goes all_of
      found_valid k [] h = rests x v calm
      found_valid k (a ∷ l) h = go (p a) refl (found_valid k l (and_right (address_storable a) (all_of address_storable l) h))
        where
          go : (t : Bool) → p a ≡ t → Valid (gateway_found x (found_at k (drop (place p l) l))).line
              → Valid (gateway_found x (found_at k (drop (cond t 0 (suc (place p l))) (a ∷ l)))).line
          go true e rest = permitted_valid a (and_left (address_storable a) (all_of address_storable l) h) e
          go false e rest = rest

      choose_valid : (l : List Address) → all_of address_storable l ≡ true → Valid (gateway_found x (choose version (held_addresses x.holds) l)).line
      unfolding choose
      choose_valid l h = found_valid (place p l) l h

    -- S1 to S4
    decided_valid : (f : Facts) (text : List ℕ) (c : Choice) → allowed f c ≡ true → Valid (decided x f text c).line
    unfolding decided goes name_asked allowed phase_fits phase_storable is_in chosen_free chosen all_of
    decided_valid f text (Choice.Stop n) h = rests x v calm
    decided_valid f text (Choice.Country mcc) h = moves x v calm (Country f) (record { fits = h; storable = refl }) room refl
    decided_valid f text (Choice.Text at n) h = moves x v calm (Name f) (record { fits = h; storable = refl }) room refl
    decided_valid f text (Choice.Network n) h = moves x v calm (Name f) (record { fits = h; storable = refl }) room refl
    decided_valid f text (Choice.Address a) h = choose_valid f.version (a ∷ []) (and_true (address_storable a) true h refl)

    -- start, by the lent text
    pub started_valid : (g : StartNumbers) → start_numbers_fit g ≡ true → (text : List ℕ) (o : Option Settings) → settings_storable o ≡ true
        → Valid (started x (facts_of g) text o).line
    unfolding started goes settings_storable
    started_valid g fits text None h = rests x v calm
    started_valid g fits text (Some s) h =
        decided_valid (facts_of g) text (Selection.start s (facts_of g)) (start_allowed (facts_of g) (given_ranged g fits) s h)

  -- the country answer, where the line keeps place facts
  pub answered_valid : (o : Option Facts) → facts_in x.phase ≡ o → (ps : Option (List Plmn)) (text : List ℕ) (s : Option Settings) → settings_storable s ≡ true
      → Valid (country_answered x o ps text s).line
  unfolding country_answered goes settings_storable
  answered_valid None e ps text s h = rests x v calm
  answered_valid (Some f) e ps text None h = rests x v calm
  answered_valid (Some f) e ps text (Some s) h =
      decided_valid (room_left x v calm (facts_busy x.phase f e)) f text (Selection.country s f ps) (country_allowed f s h (facts_fit_lem x.phase f e v.phase_valid.fits) ps)

  -- the address answer
  pub addressed_valid : (o : Option Facts) → facts_in x.phase ≡ o → (l : List Address) → all_of address_storable l ≡ true → Valid (address_answered x o l).line
  unfolding address_answered goes
  addressed_valid None e l h = rests x v calm
  addressed_valid (Some f) e l h = choose_valid (room_left x v calm (facts_busy x.phase f e)) f.version l h

-- every address of a lent list fits its octets
pub addresses_storable : (l : List ℕ) → all_of (below 256) l ≡ true → all_of address_storable (addresses_in l) ≡ true
unfolding addresses_in address_at
addresses_storable l octets =
    row_passes (address_at l) address_storable 0 (length l / 17) (λ i h. Addresses.storable l (17 * i) octets (omega (arith, div-mul-le_self (length l) 17)))
