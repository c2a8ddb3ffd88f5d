-- The claim `NetworkExactly`: what is asked for or chosen at home (S2), and which network abroad, at start (S3) and at a country answer (S4).
use Rattle.std.specs.Prelude.{ℕ, true, false, List, [], ◌∷◌, ◌≡◌, Option, None, Some}
use Rattle.network.specs.Plmn.{among}
use Rattle.network.specs.declared.Plmn.{Plmn}
use Rattle.address.specs.declared.Address.{Address}
use Rattle.config.specs.Settings.{Settings}
use Rattle.config.specs.declared.Node.TheVariants as Node
use Rattle.place.specs.declared.Facts.{Facts}
use Rattle.place.specs.declared.Place.TheVariants.{Home, Abroad}
use Rattle.preference.specs.Preference.{provisioned, preferred, ranked, unranked}
use Rattle.selection.specs.Selection.{start, country}
use Rattle.selection.specs.declared.Choice.{Choice}
use Rattle.selection.specs.declared.Choice.TheVariants.{Stop, Country, Text, Network}
use Rattle.selection.specs.declared.Stop.TheVariants as At

-- p is the registered PLMN, it is not the lent text's home PLMN, and it is not barred
pub record Registered (s : Settings) (f : Facts) (p : Plmn) : Type 0 where
  pub is : f.registered ≡ Some p
  pub away : p ≡ s.home → ⊥
  pub not_barred : among p s.bars ≡ false

-- S3: provisioned, and the registered PLMN has a `plmn` record
pub record AtOnce (s : Settings) (f : Facts) (p : Plmn) : Type 0 where
  pub provisions : provisioned s ≡ true
  pub registration : Registered s f p
  pub has_record : preferred s p ≡ true

-- S4: the registered PLMN is listed
pub record Listed (s : Settings) (f : Facts) (ps : List Plmn) (p : Plmn) : Type 0 where
  pub registration : Registered s f p
  pub in_list : among p ps ≡ true

-- S2 by what `node` says: its address, its name, or without `node` the operator name of the home PLMN
pub data AtHome (s : Settings) : Choice → Type 0 where
  to_address : {a : Address} → s.node ≡ Some (Node.Address a) → AtHome s (Choice.Address a)
  to_name_lem : {at n : ℕ} → s.node ≡ Some (Node.Name at n) → AtHome s (Text at n)
  to_operator : s.node ≡ None → AtHome s (Network s.home)

-- the same facts with no registered PLMN
unfoldable pub unregistered : Facts → Facts
unregistered f = record { place = f.place; registered = None; version = f.version }

pub record NetworkExactly : Type 0 where
  -- a registered PLMN that is the home PLMN counts as none
  pub home_at_start : (s : Settings) (f : Facts) → f.registered ≡ Some s.home → start s f ≡ start s (unregistered f)
  pub home_at_country : (s : Settings) (f : Facts) (answer : Option (List Plmn)) → f.registered ≡ Some s.home → country s f answer ≡ country s (unregistered f) answer
  -- S2
  pub at_home_lem : (s : Settings) (f : Facts) → f.place ≡ Home → AtHome s (start s f)
  -- S3, and S4 up to its question
  pub at_once : (s : Settings) (f : Facts) (mcc : ℕ) → f.place ≡ Abroad mcc → (p : Plmn) → AtOnce s f p → start s f ≡ Network p
  pub by_country : (s : Settings) (f : Facts) (mcc : ℕ) → f.place ≡ Abroad mcc → ((p : Plmn) → AtOnce s f p → ⊥) → start s f ≡ Country mcc
  -- S4: the registered PLMN comes first
  pub by_registration : (s : Settings) (f : Facts) (q : Plmn) (qs : List Plmn) (p : Plmn) → Listed s f (q ∷ qs) p → country s f (Some (q ∷ qs)) ≡ Network p
  -- else the one of best priority
  pub by_priority : (s : Settings) (f : Facts) (q : Plmn) (qs : List Plmn) → ((r : Plmn) → Listed s f (q ∷ qs) r → ⊥)
      → (p : Plmn) → ranked s (q ∷ qs) f.place ≡ Some p → country s f (Some (q ∷ qs)) ≡ Network p
  -- else the first that is not barred
  pub by_order : (s : Settings) (f : Facts) (q : Plmn) (qs : List Plmn) → ((r : Plmn) → Listed s f (q ∷ qs) r → ⊥) → ranked s (q ∷ qs) f.place ≡ None
      → (p : Plmn) → unranked s (q ∷ qs) ≡ Some p → country s f (Some (q ∷ qs)) ≡ Network p
  -- else stop 3
  pub none_left : (s : Settings) (f : Facts) (q : Plmn) (qs : List Plmn) → ((r : Plmn) → Listed s f (q ∷ qs) r → ⊥) → ranked s (q ∷ qs) f.place ≡ None
      → unranked s (q ∷ qs) ≡ None → country s f (Some (q ∷ qs)) ≡ Stop At.Barred
  -- none listed: the best `plmn` record with the visited MCC
  pub none_listed_lem : (s : Settings) (f : Facts) (p : Plmn) → ranked s [] f.place ≡ Some p → country s f (Some []) ≡ Network p
  -- else as S2
  pub none_ranked : (s : Settings) (f : Facts) → ranked s [] f.place ≡ None → AtHome s (country s f (Some []))
