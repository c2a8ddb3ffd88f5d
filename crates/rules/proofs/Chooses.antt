-- What selection and a reply come to, in the terms of S1 to S5 and of the response.
use Rattle.std.specs.Prelude.{Option, Some, slice_get}
use Prim.Native.Nat.{ℕ, ◌<◌}
use mathlib.Core.Bool.{Bool, false≢true}
use mathlib.Core.List.{List}
use mathlib.Core.Path.{◌≡◌, refl, sym, ap, ap₂, ◌∙◌, subst}
use native.Mathlib.Omega.{arith}
use lib.Dec.{eqb}
use Rattle.octets.specs.Part.{padded}
use Rattle.octets.specs.Row.{FirstAt}
use Rattle.octets.proofs.Search.{lower}
use Rattle.address.specs.Address.{held_addresses, permitted}
use Rattle.address.specs.declared.Address.{Address}
use Rattle.config.specs.Settings.{Settings, config_of}
use Rattle.gateway.specs.Gateway.{choose}
use Rattle.gateway.specs.declared.Found.{Found}
use Rattle.gateway.proofs.Choices as Choices
use Rattle.lists.specs.Lists.{addresses_in, networks_in}
use Rattle.phase.specs.declared.Phase.TheVariants.{Chosen}
use Rattle.place.specs.declared.Facts.{Facts}
use Rattle.record.specs.Changes.{current}
use Rattle.record.specs.Line.{Line}
use Rattle.response.specs.Response.{response}
use Rattle.selection.specs.Selection as Selection
use Rattle.rules.specs.Answer.{Answer, event_room}
use Rattle.rules.specs.Call.{start, country, address, reply, timed, facts_of}
use Rattle.rules.specs.declared.Action.TheVariants as Action
use Rattle.rules.specs.declared.StartNumbers.{StartNumbers}
use Rattle.rules.specs.Claims.{ComesTo, Timed}
use Rattle.rules.specs.Life.{address_answered, country_answered, decided, gateway_found, goes, outcome, replied, started}
use Rattle.rules.specs.Phases.{facts_in, owed, turn_in}
use Rattle.rules.specs.Run.{answer_of, run}
use Rattle.rules.proofs.Timed.{timed_run}
use Rattle.std.proofs.lemmas.Option.{same_Some}

-- of two first elements that pass neither stands before the other
module _ {A : Type 0} {p : A → Bool} {l : List A} where
  not_before : {k j : ℕ} {a b : A} → FirstAt p l k a → FirstAt p l j b → k < j → ⊥
  not_before {k} {j} {a} {b} s t h = false≢true (sym (t.none_before k a h s.there) ∙ s.passes)

  first_once : {k j : ℕ} {a b : A} → FirstAt p l k a → FirstAt p l j b → (k ≡ j) × (a ≡ b)
  first_once {k} {j} {a} {b} s t =
      let same : k ≡ j = lower k j (λ h. absurd (not_before s t h)) (λ h. lower j k (λ g. absurd (not_before t s g)) (λ g. omega arith)) in
      let there : Some a ≡ Some b = sym s.there ∙ ap (slice_get l) same ∙ t.there in
      (same, same_Some a b there)

-- where an address is the first that is permitted, it is the one that is found
found_first : (version : ℕ) (held l : List Address) (k : ℕ) (a : Address) → FirstAt (permitted version held) l k a → (found : Found) → choose version held l ≡ found
    → found ≡ Found.Chosen a k
found_first version held l k a at (Found.Chosen b j) e =
    let once = first_once (Choices.chosen_first version held l b j e) at in
    ap₂ Found.Chosen once.1 once.0
found_first version held l k a at (Found.Nothing j) e = absurd (false≢true (sym ((Choices.nothing_permitted version held l j e).1 k a at.there) ∙ at.passes))

-- what a call comes to, where the outcome is another way of saying the same
module _ (tenant line time : ℕ) (l : List ℕ) (x : Line) where
  abbrev y : Line
  y = current time x

  pub start_chooses : (g : StartNumbers) (text : List ℕ) (room : ℕ) (s : Settings) → Timed tenant line time (start g text room) l x → config_of text ≡ Some s
      → ComesTo tenant line time (start g text room) l (decided y (facts_of g) text (Selection.start s (facts_of g)))
  unfolding outcome started
  start_chooses g text room s t q =
      subst (λ (o : Option Settings). ComesTo tenant line time (start g text room) l (started y (facts_of g) text o)) q (timed_run tenant line time (start g text room) l x t)

  pub country_chooses : (replied : ℕ) (networks text : List ℕ) (room : ℕ) (s : Settings) (f : Facts) → Timed tenant line time (country replied networks text room) l x
      → config_of text ≡ Some s → facts_in x.phase ≡ Some f
      → ComesTo tenant line time (country replied networks text room) l (decided y f text (Selection.country s f (Selection.country_reply (eqb replied 1) (networks_in networks))))
  unfolding outcome country_answered current
  country_chooses replied networks text room s f t q facts =
      let e = country replied networks text room in
      let ps = Selection.country_reply (eqb replied 1) (networks_in networks) in
      subst (λ (o : Option Settings). ComesTo tenant line time e l (country_answered y (Some f) ps text o)) q
      (subst (λ (o : Option Facts). ComesTo tenant line time e l (country_answered y o ps text (config_of text))) facts (timed_run tenant line time e l x t))

  pub chosen_first : (list : List ℕ) (f : Facts) (k : ℕ) (a : Address) → Timed tenant line time (address list) l x → facts_in x.phase ≡ Some f
      → FirstAt (permitted f.version (held_addresses y.holds)) (addresses_in list) k a → ComesTo tenant line time (address list) l (goes y (Chosen a) (Action.Chose a k))
  unfolding outcome address_answered current gateway_found
  chosen_first list f k a t facts at =
      let e = address list in
      let held = held_addresses y.holds in
      subst (λ (found : Found). ComesTo tenant line time e l (gateway_found y found)) (found_first f.version held (addresses_in list) k a at _ refl)
      (subst (λ (o : Option Facts). ComesTo tenant line time e l (address_answered y o (addresses_in list))) facts (timed_run tenant line time e l x t))

  pub reply_written : (parameters nas : List ℕ) (room i : ℕ) → Timed tenant line time (reply parameters nas room) l x → owed (turn_in x.phase) ≡ Some i
      → (run (timed tenant line time (reply parameters nas room)) l).answer.buffer ≡ padded room (response i parameters nas)
  unfolding outcome replied current answer_of event_room
  reply_written parameters nas room i t owes =
      let e = reply parameters nas room in
      ap (λ (a : Answer). a.buffer) (timed_run tenant line time e l x t).0 ∙ ap (λ (o : Option ℕ). (answer_of e (replied y parameters nas o)).buffer) owes
