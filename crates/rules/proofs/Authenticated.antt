-- A line gets live only by a good final answer while it is sure, and sure only by a Success with the identifier of the last reply.
use Rattle.std.specs.Prelude.{Option, None, Some, is_some}
use Prim.Native.Nat.{ℕ, ◌≤◌}
use mathlib.Core.Bool.{Bool, true, false, cond, false≢true}
use mathlib.Core.List.{List}
use mathlib.Core.Path.{◌≡◌, refl, sym, ap, ◌∙◌, subst}
use native.Mathlib.Omega.{arith}
use lib.Dec.{eqb, ltb}
use borrow.Author.Tests.{eqb-true, lt-ltb}
use Rattle.octets.specs.Part.{same}
use Rattle.rules.proofs.Rows.{Passes}
use Rattle.rules.specs.View.{fresh, view_in}
use Rattle.octets.proofs.Search.{either}
use Rattle.address.specs.declared.Address.{Address}
use Rattle.eap.specs.Packet.{read_packet}
use Rattle.eap.specs.declared.Packet.TheVariants.{Success}
use Rattle.phase.specs.Stage.{is_in}
use Rattle.phase.specs.Stage as Stage
use Rattle.phase.specs.declared.Phase.{Phase}
use Rattle.phase.specs.declared.Phase.TheVariants.{Idle, Sure, Live}
use Rattle.place.specs.declared.Facts.{Facts}
use Rattle.record.specs.Changes.{current}
use Rattle.record.specs.Line.{Line}
use Rattle.table.specs.Slots.{line_at, pair_in, slot_line, slots_of}
use Rattle.table.specs.Table.{record_of}
use Rattle.table.proofs.Lookups.{open_line}
use Rattle.table.proofs.Views.{open_found}
use Rattle.rules.specs.After.{Chooses, chooses, finds_none, Decides, asks_text, asks_built, goes_through, stops, Transition, start_asks, start_decides, country_decides, address_answered_lem, begun, init_answered, eap_started, eap_asked, first_replied, later_replied, eap_succeeded, final_good, final_bad, error_notified, congestion_told, given_up, child_added, child_taken, ike_deleted, LiveBy, was_live, auth_good, SureBy, was_sure, success}
use Rattle.rules.specs.declared.Action.{Action}
use Rattle.rules.specs.Call.{Event, eap, final, Call, opening, closing, listing, timed, pair_of, last_time}
use Rattle.rules.specs.Claims.{Good, Timed, line_in}
use Rattle.rules.specs.Histories.{is_octets}
use Rattle.rules.specs.Life.{outcome}
use Rattle.rules.specs.Phases.{last_reply, turn_in}
use Rattle.rules.specs.Run.{Result, run, step, step_of, timed_step}
use Rattle.rules.proofs.Accepted.{line_range, ready, timed_pair}
use Rattle.rules.proofs.Acts.{act_line, line_after}
use Rattle.rules.proofs.PhaseAfter.{rows}
use Rattle.rules.proofs.Refused.{given_is, no_row}
use Rattle.rules.proofs.Runs.{accepted, number, table_left}
use Rattle.rules.proofs.Timed.{event_passes, timed_run}

-- a phase that is neither sure nor live
record Early (p : Phase) : Type 0 where
  not_sure : is_in Stage.sure p ≡ false
  not_live : is_in Stage.live p ≡ false

idle_early : Early Idle
unfolding is_in
idle_early = record { not_sure = refl; not_live = refl }

chosen_early : {q : Phase} {action : Action} → Chooses q action → Early q
unfolding is_in
chosen_early chooses = record { not_sure = refl; not_live = refl }
chosen_early finds_none = idle_early

decided_early : {f : Facts} {q : Phase} {action : Action} → Decides f q action → Early q
unfolding is_in
decided_early asks_text = record { not_sure = refl; not_live = refl }
decided_early asks_built = record { not_sure = refl; not_live = refl }
decided_early (goes_through c) = chosen_early c
decided_early stops = idle_early

-- how a row leads to sure or live
data Leads (e : Event) (p : Phase) : Phase → Type 0 where
  stays : Leads e p p
  early : {q : Phase} → Early q → Leads e p q
  succeeds : (packet : List ℕ) (i : ℕ) (a : Address) → e ≡ eap packet → read_packet packet ≡ Some (Success i) → last_reply (turn_in p) ≡ Some i → Leads e p (Sure a)
  finishes : (a : Address) → e ≡ final 1 → is_in Stage.sure p ≡ true → Leads e p (Live a)

leads : {e : Event} {p q : Phase} {action : Action} → Transition e p q action → Leads e p q
unfolding is_in last_reply turn_in
leads start_asks = early (record { not_sure = refl; not_live = refl })
leads (start_decides d) = early (decided_early d)
leads (country_decides d) = early (decided_early d)
leads (address_answered_lem c) = early (chosen_early c)
leads begun = early (record { not_sure = refl; not_live = refl })
leads init_answered = early (record { not_sure = refl; not_live = refl })
leads (eap_started r) = early (record { not_sure = refl; not_live = refl })
leads (eap_asked r) = early (record { not_sure = refl; not_live = refl })
leads first_replied = early (record { not_sure = refl; not_live = refl })
leads later_replied = early (record { not_sure = refl; not_live = refl })
leads (eap_succeeded r) = succeeds _ _ _ refl r refl
leads final_good = finishes _ refl refl
leads final_bad = early idle_early
leads (error_notified u) = early idle_early
leads (congestion_told u) = early idle_early
leads (given_up i l) = early idle_early
leads child_added = stays
leads child_taken = stays
leads ike_deleted = early idle_early

module _ (tenant line time : ℕ) (x : Line) {e : Event} where
  live_by : {q : Phase} → Leads e x.phase q → is_in Stage.live q ≡ true → LiveBy (timed tenant line time e) tenant line (Some x)
  unfolding is_in
  live_by stays h = was_live x h
  live_by (early f) h = absurd (false≢true (sym f.not_live ∙ h))
  live_by (succeeds packet i a q r last) h = absurd (false≢true h)
  live_by (finishes a q before) h = auth_good x time (ap (timed tenant line time) q) before

  sure_by : {q : Phase} → Leads e x.phase q → is_in Stage.sure q ≡ true → SureBy (timed tenant line time e) tenant line (Some x)
  unfolding is_in
  sure_by stays h = was_sure x h
  sure_by (early f) h = absurd (false≢true (sym f.not_sure ∙ h))
  sure_by (succeeds packet i a q r last) h = success x time i packet (ap (timed tenant line time) q) r last
  sure_by (finishes a q before) h = absurd (false≢true h)

-- how a pair came by the line that it has after a call
data Came (c : Call) (l : List ℕ) (tenant line : ℕ) (y : Line) : Type 0 where
  kept : line_in l tenant line ≡ Some y → Came c l tenant line y
  opened : y ≡ fresh → Came c l tenant line y
  happened : (time : ℕ) (e : Event) (x : Line) → c ≡ timed tenant line time e → Timed tenant line time e l x → y ≡ (outcome e (current time x)).line
      → Came c l tenant line y

-- the line that stands where a slot of a pair was put, or the one from before
put_or_kept : {A : Type 0} (k pair q : ℕ) (s o : Option Line) (y : Line) → cond (eqb k q) s (cond (eqb pair q) None o) ≡ Some y
    → (k ≡ q → s ≡ Some y → A) → (o ≡ Some y → A) → A
put_or_kept {A} k pair q s o y h new old = go (eqb k q) (eqb pair q) refl h
  where
    go : (a b : Bool) → eqb k q ≡ a → cond a s (cond b None o) ≡ Some y → A
    go true b e g = new (eqb-true k q e) g
    go false true e g = let z : ◌≡◌ {A = ℕ} 0 1 = cc in absurd (omega arith)
    go false false e g = old g

-- an accepted timed call on a line
module _ (tenant line time : ℕ) (e : Event) (l : List ℕ) (octets : is_octets (timed tenant line time e) ≡ true) (good : Good l)
    (n : number (timed tenant line time e) l ≡ 0) where
  abbrev d : Call
  d = timed tenant line time e

  in_range_lem : line ≤ 3
  in_range_lem = line_range tenant line (timed_pair tenant line time e (view_in d l) (no_row d (view_in d l) n))

  abbrev p : ℕ
  p = pair_of tenant line

  own_came : (y : Line) → line_in (run d l).table tenant line ≡ Some y → Came d l tenant line y
  unfolding step_of step timed_step pair_of
  own_came y h = go (line_in l tenant line) refl (sym (open_line p (omega arith) (slots_of l)) ∙ open_found l p ∙ lt-ltb (record_of l p) 32 (ready d l octets good n).0)
    where
      go : (o : Option Line) → line_in l tenant line ≡ o → is_some o ≡ true → Came d l tenant line y
      go None q there = absurd (false≢true there)
      go (Some x) q there =
          let t : Timed tenant line time e l x = record { octets = octets; good = good; stands = q; accepted = given_is d l ∙ n } in
          let after = (timed_run tenant line time e l x t).1 in
          happened time e x refl t (cc)

module _ (l : List ℕ) (good : Good l) (tenant line : ℕ) (small : line ≤ 3) (y : Line) where
  abbrev q : ℕ
  q = pair_of tenant line

  -- a line that stands after an accepted call was put there or stood before
  module _ (c : Call) (octets : is_octets c ≡ true) (n : number c l ≡ 0) (h : line_in (run c l).table tenant line ≡ Some y) where
    acted : line_after (step_of c l).act q (line_in l tenant line) ≡ Some y
    unfolding pair_of
    acted =
        sym (ap (λ (r : Result). line_at q (slots_of r.table)) (accepted c l n) ∙ act_line l good (step_of c l).act (ready c l octets good n) q (omega arith)) ∙ h

  -- its own timed call is one on the same tenant and line
  same_pair_lem : (t k time : ℕ) (e : Event) → is_octets (timed t k time e) ≡ true → number (timed t k time e) l ≡ 0
      → line_in (run (timed t k time e) l).table tenant line ≡ Some y → pair_of t k ≡ q → Came (timed t k time e) l tenant line y
  unfolding pair_of
  same_pair_lem t k time e octets n h same =
      let c = timed t k time e in
      let low = in_range_lem t k time e l octets good n in
      let tenants : t ≡ tenant = omega arith in
      let lines : k ≡ line = omega arith in
      subst (λ (a : ℕ). Came c l a line y) tenants
      (subst (λ (b : ℕ). Came c l t b y) lines (own_came t k time e l octets good n y (ap (λ (p : ℕ). line_at p (slots_of (run c l).table)) same ∙ h)))

  came_accepted : (c : Call) → is_octets c ≡ true → number c l ≡ 0 → line_in (run c l).table tenant line ≡ Some y → Came c l tenant line y
  unfolding step_of step timed_step line_after pair_in slot_line pair_of
  came_accepted (opening t k) octets n h = put_or_kept (pair_of t k) 0 q (Some fresh) (line_in l tenant line) y (acted (opening t k) octets n h) (λ e f. opened (cc)) kept
  came_accepted (closing t k) octets n h =
      put_or_kept 0 (pair_of t k) q None (line_in l tenant line) y (acted (closing t k) octets n h) (λ e f. absurd (omega arith)) kept
  came_accepted (listing t room) octets n h = kept (acted (listing t room) octets n h)
  came_accepted (timed t k time e) octets n h =
      put_or_kept (pair_of t k) (pair_of t k) q _ (line_in l tenant line) y (acted (timed t k time e) octets n h) (λ same f. same_pair_lem t k time e octets n h same) kept

  came : (c : Call) → is_octets c ≡ true → line_in (run c l).table tenant line ≡ Some y → Came c l tenant line y
  came c octets h =
      either (number c l) 0 (λ n. came_accepted c octets n h) (λ r. kept (sym (ap (λ (t : List ℕ). line_in t tenant line) (table_left c l r)) ∙ h))

  -- a test of phases that an idle line doesn't pass, and what is known of a line that passes it
  module _ (test : Phase → Bool) (By : Call → Option Line → Type 0) (rested : test Idle ≡ false)
      (stood : (c : Call) (x : Line) → test x.phase ≡ true → By c (Some x))
      (passed : (time : ℕ) (e : Event) (x : Line) → Passes e (ltb last_time time) (current time x)
      → test (outcome e (current time x)).line.phase ≡ true → By (timed tenant line time e) (Some x)) where
    known : (c : Call) → Came c l tenant line y → test y.phase ≡ true → By c (line_in l tenant line)
    unfolding fresh
    known c (kept e) h = subst (By c) (sym e) (stood c y h)
    known c (opened e) h = absurd (false≢true (sym rested ∙ ap (λ (z : Line). test z.phase) (sym e) ∙ h))
    known c (happened time e x same t after) h =
        subst (λ (d : Call). By d (line_in l tenant line)) (sym same)
        (subst (By (timed tenant line time e)) (sym t.stands) (passed time e x (event_passes tenant line time e l x t) (sym (ap (λ (z : Line). test z.phase) after) ∙ h)))

module _ (c : Call) (l : List ℕ) (tenant line : ℕ) (y : Line) (octets : is_octets c ≡ true) (good : Good l) (small : line ≤ 3)
    (h : line_in (run c l).table tenant line ≡ Some y) where
  abbrev came_by : Came c l tenant line y
  came_by = came l good tenant line small y c octets h

  pub live_authenticated : is_in Stage.live y.phase ≡ true → LiveBy c tenant line (line_in l tenant line)
  unfolding current
  live_authenticated =
      known l good tenant line small y (is_in Stage.live) (λ d o. LiveBy d tenant line o) idle_early.not_live (λ d x. was_live x)
      (λ time e x free. live_by tenant line time x (leads (rows (current time x) (ltb last_time time) e free))) c came_by

  pub sure_succeeded : is_in Stage.sure y.phase ≡ true → SureBy c tenant line (line_in l tenant line)
  unfolding current
  sure_succeeded =
      known l good tenant line small y (is_in Stage.sure) (λ d o. SureBy d tenant line o) idle_early.not_sure (λ d x. was_sure x)
      (λ time e x free. sure_by tenant line time x (leads (rows (current time x) (ltb last_time time) e free))) c came_by
