-- What S1 to S4 came to has the part that its action names.
use Prim.Native.Nat.{ℕ, ◌+◌, ◌≤◌}
use mathlib.Core.List.{List, [], ◌∷◌}
use mathlib.Core.Path.{◌≡◌, refl, sym, ap, ◌∙◌, subst}
use native.Mathlib.Omega.{arith}
use lib.ListN.{length}
use Rattle.octets.specs.Part.{part}
use Rattle.octets.proofs.Parts.{length_part}
use Rattle.address.specs.Address.{held_addresses}
use Rattle.address.specs.declared.Address as Address
use Rattle.gateway.specs.Gateway.{choose}
use Rattle.gateway.specs.declared.Found.{Found}
use Rattle.network.specs.Name.{Named}
use Rattle.network.specs.declared.Plmn.{Plmn}
use Rattle.phase.specs.declared.Phase.TheVariants as Phase
use Rattle.place.specs.declared.Facts.{Facts}
use Rattle.selection.specs.Query.{asked, built, Lies, TextWithin}
use Rattle.query.proofs.Names.{lies, name_fits, name_part}
use Rattle.record.specs.Changes.{in_phase}
use Rattle.record.specs.Line.{Line}
use Rattle.rules.specs.Answer.{lent_in, numbers_of, part_named, PartWithin, twelve}
use Rattle.rules.specs.Life.{Outcome, decided, gateway_found, goes, name_asked}
use Rattle.rules.specs.declared.Action.TheVariants.{AskBuilt, AskCountry, AskText, Stopped}
use Rattle.selection.specs.declared.Choice.{Choice}
use Rattle.selection.specs.declared.Choice.TheVariants.{Stop, Country, Text, Network, Address}
use Rattle.selection.specs.declared.Stop as Selection
use Rattle.attempt.specs.Attempt.{Comes, Says}
use Rattle.attempt.specs.declared.Move.{Move}

-- an outcome's part is the one that its action names, and its written octets are given
record Named-by (o : Outcome) (text name written : List ℕ) : Type 0 where
  part_is : part_named (numbers_of o.action) text name [] ≡ o.part
  part_within : PartWithin (numbers_of o.action) text name []
  written_is : o.written ≡ written

-- a name that was built is the part from the start of its buffer
module _ (l name : List ℕ) (n : ℕ) (named : Named l (length name) name n) where
  built_part : part name 0 (length l) ≡ l
  built_part = ap (part name 0) (sym named.size) ∙ name_part l name n named

  built_within : 0 + length l ≤ length name
  built_within = subst (λ (k : ℕ). 0 + k ≤ length name) named.size (name_fits l name n named)

module _ (x : Line) (text name : List ℕ) where
  found_names : (f : Found) → Named-by (gateway_found x f) text name []
  unfolding gateway_found goes numbers_of twelve part_named lent_in part
  found_names (Found.Chosen a k) = record { part_is = refl; part_within = omega arith; written_is = refl }
  found_names (Found.Nothing k) = record { part_is = refl; part_within = omega arith; written_is = refl }

  decided_names : (f : Facts) (n : ℕ) (c : Choice) → Lies text name n c → Named-by (decided x f text c) text name (built c)
  unfolding decided goes name_asked asked built numbers_of twelve part_named lent_in part
  decided_names f n (Stop at) l = record { part_is = refl; part_within = omega arith; written_is = refl }
  decided_names f n (Country mcc) l =
      record { part_is = built_part _ name n l.in_name; part_within = built_within _ name n l.in_name; written_is = refl }
  decided_names f n (Text at m) l = record { part_is = refl; part_within = l.in_text; written_is = refl }
  decided_names f n (Network p) l =
      record { part_is = built_part _ name n l.in_name; part_within = built_within _ name n l.in_name; written_is = refl }
  decided_names f n (Address a) l = found_names _

module _ (x : Line) (f : Facts) (text : List ℕ) (c : Choice) where
  -- the phase and the action are those of the outcome
  abbrev Decides : Move → Type 0
  Decides r = ((decided x f text c).line ≡ in_phase x r.phase) × (r.action ≡ (decided x f text c).action)

  pub stops : (at : Selection.Stop) → c ≡ Stop at → Decides (record { phase = Phase.Idle; action = Stopped at 0 })
  unfolding decided goes
  stops at told = rw told (refl, refl)

  -- a name is asked whose length the action says
  module _ (l : List ℕ) (is-asked : l ≡ asked text c) where
    pub asks_country_lem : (mcc : ℕ) → c ≡ Country mcc → Decides (record { phase = Phase.Country f; action = AskCountry (length l) })
    unfolding decided name_asked asked built
    asks_country_lem mcc told = rw (is-asked, told) (refl, refl)

    pub asks_built : (p : Plmn) → c ≡ Network p → Decides (record { phase = Phase.Name f; action = AskBuilt (length l) })
    unfolding decided name_asked asked built
    asks_built p told = rw (is-asked, told) (refl, refl)

    pub asks_text : (at n : ℕ) → c ≡ Text at n → TextWithin text c → Decides (record { phase = Phase.Name f; action = AskText at (length l) })
    unfolding decided name_asked asked
    asks_text at n told within =
        let inside : at + n ≤ length text = rw told at within in
        rw (is-asked, told, length_part text at n inside) (refl, refl)

  -- an address is an answer list of one
  pub answers_one : (a : Address.Address) → c ≡ Address a → (found : Found) → found ≡ choose f.version (held_addresses x.holds) (a ∷ []) → (r : Move) → Comes r found → Decides r
  unfolding decided goes
  answers_one a told found is r comes =
      let same = ap (gateway_found x) (sym is) ∙ comes x in
      rw told (ap (λ (o : Outcome). o.line) same, sym (ap (λ (o : Outcome). o.action) same))

  -- the name of the choice was built and lies in its slice
  pub says : (r : Move) (name : List ℕ) (n room : ℕ) → TextWithin text c → Named (built c) room name n → length name ≡ room → Decides r
      → Says r x (decided x f text c) text name room
  says r name n room within named sized decides =
      let l = lies text name n room c within named sized in
      let names = decided_names x text name f n c l in
      record {
        line_is = decides.0;
        action_is = decides.1;
        part_is = rw decides.1 names.part_is;
        part_within = rw decides.1 names.part_within;
        name_is = rw names.written_is named.whole;
      }
