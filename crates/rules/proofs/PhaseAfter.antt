-- An accepted timed call follows a row of 'Life of a line'.
use Rattle.std.specs.Prelude.{Option, None, Some, is_some}
use Prim.Native.Nat.{ℕ, ◌≤◌}
use mathlib.Core.Bool.{Bool, true, false, cond, not, ◌&&◌, false≢true}
use mathlib.Core.List.{List, [], ◌∷◌}
use mathlib.Core.Path.{◌≡◌, refl, sym, ap, ◌∙◌, subst}
use native.Mathlib.Omega.{arith}
use lib.Dec.{eqb, ltb}
use lib.ListN.{get_or}
use borrow.Author.Tests.{eqb-true, eqb-false, ltb-false, not-true, not-false}
use Rattle.octets.proofs.Search.{and_left, and_right, either}
use Rattle.address.specs.Address.{held_addresses}
use Rattle.address.specs.declared.Address.{Address}
use Rattle.children.specs.Children.{has_spi}
use Rattle.config.specs.Settings.{Settings, config_of}
use Rattle.config.specs.declared.Node.{Node}
use Rattle.eap.specs.Packet.{read_packet}
use Rattle.eap.specs.declared.Packet.{Packet}
use Rattle.eap.specs.declared.Packet.TheVariants.{Start, NasRequest, Success, NasResponse, Stop}
use Rattle.gateway.specs.Gateway.{choose}
use Rattle.gateway.specs.declared.Found.{Found}
use Rattle.lists.specs.Lists.{addresses_in, networks_in}
use Rattle.network.specs.declared.Plmn.{Plmn}
use Rattle.phase.specs.Chosen.{chosen}
use Rattle.phase.specs.Stage.{Stage, is_in, stage_number, stage_of}
use Rattle.phase.specs.declared.Phase.{Phase}
use Rattle.phase.specs.declared.Phase.TheVariants.{Idle, Country, Name, Chosen, Init, Auth, Eap, Sure, Live}
use Rattle.phase.specs.declared.Turn.{Turn}
use Rattle.phase.specs.declared.Turn.TheVariants.{First, Owed, Answered}
use Rattle.place.specs.declared.Facts.{Facts}
use Rattle.preference.specs.Preference.{ranked, unranked}
use Rattle.record.specs.Changes.{current, in_phase, with_children}
use Rattle.record.specs.Line.{Line}
use Rattle.selection.specs.Selection as Selection
use Rattle.selection.specs.declared.Choice.{Choice}
use Rattle.rules.specs.After.{Chooses, chooses, finds_none, Decides, asks_text, asks_built, goes_through, stops, Underway, in_auth, in_eap_lem, in_sure, Transition, start_asks, start_decides, country_decides, address_answered_lem, begun, init_answered, eap_started, eap_asked, first_replied, later_replied, eap_succeeded, final_good, final_bad, error_notified, given_up, child_added, child_taken, ike_deleted, PhaseAfter, ends_eap}
use Rattle.rules.specs.After as After
use Rattle.rules.specs.Answer.{Answer, numbers_of, twelve}
use Rattle.rules.specs.declared.Action.{Action}
use Rattle.rules.specs.Call.{Event, start, country, address, begin, init, eap, reply, final, error, congestion, give_up, child_made, child_deleted, ike_delete, timed, facts_of, last_time}
use Rattle.rules.specs.declared.StartNumbers.{StartNumbers}
use Rattle.rules.specs.Claims.{Timed, line_in}
use Rattle.rules.specs.Life.{address_answered, congested, country_answered, decided, ended, finished, gateway_found, goes, keeps, name_asked, onward, outcome, packet_taken, replied, started}
use Rattle.rules.specs.Phases.{facts_in, last_reply, owed, turn_in, underway}
use Rattle.rules.specs.Refusals.{is_allowed, is_due, is_malformed, is_identifier, is_out_of_range}
use Rattle.rules.specs.Run.{answer_of, run}
use Rattle.rules.proofs.Rows.{Passes}
use Rattle.rules.proofs.Timed.{event_passes, timed_run}

-- a phase by its stage
data Is : Stage → Phase → Type 0 where
  is_idle : Is Stage.idle Idle
  is_country_lem : (f : Facts) → Is Stage.country (Country f)
  is_name_lem : (f : Facts) → Is Stage.name (Name f)
  is_chosen : (a : Address) → Is Stage.chosen (Chosen a)
  is_init : (a : Address) → Is Stage.init (Init a)
  is_auth : (a : Address) → Is Stage.auth (Auth a)
  is_eap_lem : (a : Address) (t : Turn) → Is Stage.eap (Eap a t)
  is_sure : (a : Address) → Is Stage.sure (Sure a)
  is_live : (a : Address) → Is Stage.live (Live a)

of_stage_lem : (p : Phase) → Is (stage_of p) p
of_stage_lem Idle = is_idle
of_stage_lem (Country f) = is_country_lem f
of_stage_lem (Name f) = is_name_lem f
of_stage_lem (Chosen a) = is_chosen a
of_stage_lem (Init a) = is_init a
of_stage_lem (Auth a) = is_auth a
of_stage_lem (Eap a t) = is_eap_lem a t
of_stage_lem (Sure a) = is_sure a
of_stage_lem (Live a) = is_live a

-- the stage with a number
numbered : ℕ → Stage
numbered n =
    cond (eqb n 0) Stage.idle (cond (eqb n 1) Stage.country (cond (eqb n 2) Stage.name (cond (eqb n 3) Stage.chosen (cond (eqb n 4) Stage.init
    (cond (eqb n 5) Stage.auth (cond (eqb n 6) Stage.eap (cond (eqb n 7) Stage.sure Stage.live)))))))

numbered_is : (s : Stage) → numbered (stage_number s) ≡ s
unfolding numbered
numbered_is Stage.idle = refl
numbered_is Stage.country = refl
numbered_is Stage.name = refl
numbered_is Stage.chosen = refl
numbered_is Stage.init = refl
numbered_is Stage.auth = refl
numbered_is Stage.eap = refl
numbered_is Stage.sure = refl
numbered_is Stage.live = refl

in_stage : (s : Stage) (p : Phase) → is_in s p ≡ true → Is s p
unfolding is_in
in_stage s p h =
    let same = eqb-true (stage_number (stage_of p)) (stage_number s) h in
    subst (λ (r : Stage). Is r p) (sym (numbered_is (stage_of p)) ∙ ap numbered same ∙ numbered_is s) (of_stage_lem p)

-- a phase by its turn
data InTurn : Option Turn → Phase → Type 0 where
  turned : (a : Address) (t : Turn) → InTurn (Some t) (Eap a t)
  unturned : (p : Phase) → InTurn None p

in_turn : (p : Phase) → InTurn (turn_in p) p
unfolding turn_in
in_turn Idle = unturned Idle
in_turn (Country f) = unturned (Country f)
in_turn (Name f) = unturned (Name f)
in_turn (Chosen a) = unturned (Chosen a)
in_turn (Init a) = unturned (Init a)
in_turn (Auth a) = unturned (Auth a)
in_turn (Eap a t) = turned a t
in_turn (Sure a) = unturned (Sure a)
in_turn (Live a) = unturned (Live a)

-- a phase that is auth, eap or sure
is_underway : (p : Phase) → underway p ≡ true → Underway p (ended p)
unfolding underway ended is_in
is_underway Idle h = absurd (false≢true h)
is_underway (Country f) h = absurd (false≢true h)
is_underway (Name f) h = absurd (false≢true h)
is_underway (Chosen a) h = absurd (false≢true h)
is_underway (Init a) h = absurd (false≢true h)
is_underway (Auth a) h = in_auth
is_underway (Eap a t) h = in_eap_lem
is_underway (Sure a) h = in_sure
is_underway (Live a) h = absurd (false≢true h)

-- a choice that is no question for a visited country
asks_country : Choice → Bool
asks_country (Choice.Stop n) = false
asks_country (Choice.Country mcc) = true
asks_country (Choice.Text at n) = false
asks_country (Choice.Network p) = false
asks_country (Choice.Address a) = false

asks_or : (o : Option Plmn) (c : Choice) → asks_country c ≡ false → asks_country (Selection.ask_or o c) ≡ false
unfolding Selection.ask_or asks_country
asks_or None c h = h
asks_or (Some p) c h = refl

asks_node : (home : Plmn) (n : Option Node) → asks_country (Selection.by_node home n) ≡ false
unfolding Selection.by_node asks_country
asks_node home (Some (Node.Address a)) = refl
asks_node home (Some (Node.Name at n)) = refl
asks_node home None = refl

-- the country answer asks for no country again
asks_no_country : (s : Settings) (f : Facts) (ps : Option (List Plmn)) → asks_country (Selection.country s f ps) ≡ false
unfolding Selection.country Selection.none_listed Selection.one_or_more Selection.at_home asks_country
asks_no_country s f None = refl
asks_no_country s f (Some []) = asks_or (ranked s [] f.place) _ (asks_node s.home s.node)
asks_no_country s f (Some (p ∷ ps)) =
    let listed = p ∷ ps in
    asks_or (Selection.if_listed s (Selection.registered s f) listed) _ (asks_or (ranked s listed f.place) _ (asks_or (unranked s listed) _ refl))

-- selection, on a line as the call finds it
module _ (x : Line) where
  found_row : (f : Found) → Chooses (gateway_found x f).line.phase (gateway_found x f).action
  unfolding gateway_found goes in_phase
  found_row (Found.Chosen a k) = chooses
  found_row (Found.Nothing k) = finds_none

  decided_row : (f : Facts) (text : List ℕ) (c : Choice) → asks_country c ≡ false → Decides f (decided x f text c).line.phase (decided x f text c).action
  unfolding decided goes name_asked in_phase asks_country
  decided_row f text (Choice.Stop n) h = stops
  decided_row f text (Choice.Country mcc) h = absurd (false≢true (sym h))
  decided_row f text (Choice.Text at n) h = asks_text
  decided_row f text (Choice.Network p) h = asks_built
  decided_row f text (Choice.Address a) h = goes_through (found_row (choose f.version (held_addresses x.holds) (a ∷ [])))

  start_row : (g : StartNumbers) (text : List ℕ) (room : ℕ) (c : Choice)
      → Transition (start g text room) Idle (decided x (facts_of g) text c).line.phase (decided x (facts_of g) text c).action
  unfolding decided name_asked in_phase asks_country
  start_row g text room (Choice.Stop n) = start_decides (decided_row (facts_of g) text (Choice.Stop n) refl)
  start_row g text room (Choice.Country mcc) = start_asks
  start_row g text room (Choice.Text at n) = start_decides (decided_row (facts_of g) text (Choice.Text at n) refl)
  start_row g text room (Choice.Network p) = start_decides (decided_row (facts_of g) text (Choice.Network p) refl)
  start_row g text room (Choice.Address a) = start_decides (decided_row (facts_of g) text (Choice.Address a) refl)

  started_row : (g : StartNumbers) (text : List ℕ) (room : ℕ) (o : Option Settings) → is_some o ≡ true → {p : Phase} → Is Stage.idle p
      → Transition (start g text room) p (started x (facts_of g) text o).line.phase (started x (facts_of g) text o).action
  unfolding started
  started_row g text room None h is_idle = absurd (false≢true h)
  started_row g text room (Some s) h is_idle = start_row g text room (Selection.start s (facts_of g))

  answered_row : (n : ℕ) (networks text : List ℕ) (room : ℕ) (ps : Option (List Plmn)) (o : Option Settings) → is_some o ≡ true → {p : Phase} → Is Stage.country p
      → Transition (country n networks text room) p (country_answered x (facts_in p) ps text o).line.phase (country_answered x (facts_in p) ps text o).action
  unfolding country_answered facts_in
  answered_row n networks text room ps None h (is_country_lem f) = absurd (false≢true h)
  answered_row n networks text room ps (Some s) h (is_country_lem f) = country_decides (decided_row f text (Selection.country s f ps) (asks_no_country s f ps))

  addressed_row : (list : List ℕ) (listed : List Address) {p : Phase} → Is Stage.name p
      → Transition (address list) p (address_answered x (facts_in p) listed).line.phase (address_answered x (facts_in p) listed).action
  unfolding address_answered facts_in
  addressed_row list listed (is_name_lem f) = address_answered_lem (found_row (choose f.version (held_addresses x.holds) listed))

-- the chosen address goes on
begin_row : {p : Phase} → Is Stage.chosen p → Transition begin p (onward Init (chosen p)) Action.SendInit
unfolding onward chosen
begin_row (is_chosen a) = begun

init_row : {p : Phase} → Is Stage.init p → Transition init p (onward Auth (chosen p)) Action.SendAuthRequest
unfolding onward chosen
init_row (is_init a) = init_answered

final_row : (good : ℕ) {p : Phase} → good ≡ 1 → Is Stage.sure p → Transition (final good) p (onward Live (chosen p)) Action.Live
unfolding onward chosen
final_row good q (is_sure a) = subst (λ (n : ℕ). Transition (final n) (Sure a) (Live a) Action.Live) (sym q) final_good

bad_row : (good : ℕ) {p : Phase} → good ≡ 0 → Is Stage.sure p → Transition (final good) p Idle (Action.Released false)
bad_row good q (is_sure a) = subst (λ (n : ℕ). Transition (final n) (Sure a) Idle (Action.Released false)) (sym q) final_bad

made_row : (spi session : ℕ) {p : Phase} → Is Stage.live p → Transition (child_made spi session) p p Action.Nothing
made_row spi session (is_live a) = child_added

taken_row : (spi : ℕ) {p : Phase} → Is Stage.live p → Transition (child_deleted spi) p p Action.Nothing
taken_row spi (is_live a) = child_taken

deleted_row : {p : Phase} → Is Stage.live p → Transition ike_delete p Idle (Action.Released false)
deleted_row (is_live a) = ike_deleted

-- EAP
module _ (packet : List ℕ) {i : ℕ} where
  begun_row : {p : Phase} → read_packet packet ≡ Some (Start i) → Is Stage.auth p → Transition (eap packet) p (onward (λ a. Eap a (First i)) (chosen p)) Action.AskNas
  unfolding onward chosen
  begun_row r (is_auth a) = eap_started r

  asked_row : {at n : ℕ} {o : Option Turn} {p : Phase} → read_packet packet ≡ Some (NasRequest i at n) → InTurn o p → is_some (last_reply o) ≡ true
      → Transition (eap packet) p (onward (λ a. Eap a (Owed i)) (chosen p)) (Action.HandUp at n)
  unfolding onward chosen last_reply
  asked_row r (unturned q) h = absurd (false≢true h)
  asked_row r (turned a (First j)) h = absurd (false≢true h)
  asked_row r (turned a (Owed j)) h = absurd (false≢true h)
  asked_row r (turned a (Answered j)) h = eap_asked r

  succeeded_row : {o : Option Turn} {p : Phase} → read_packet packet ≡ Some (Success i) → InTurn o p → is_identifier i (last_reply o) ≡ true
      → Transition (eap packet) p (onward Sure (chosen p)) Action.SendAuth
  unfolding onward chosen last_reply is_identifier
  succeeded_row r (unturned q) h = absurd (false≢true h)
  succeeded_row r (turned a (First j)) h = absurd (false≢true h)
  succeeded_row r (turned a (Owed j)) h = absurd (false≢true h)
  succeeded_row r (turned a (Answered j)) h = eap_succeeded (r ∙ ap (λ (k : ℕ). Some (Success k)) (eqb-true i j h))

packet_row : (x : Line) (packet : List ℕ) (q : Option Packet) → read_packet packet ≡ q → is_due q x.phase ≡ true
    → Transition (eap packet) x.phase (packet_taken x packet q).line.phase (packet_taken x packet q).action
unfolding packet_taken keeps goes in_phase is_due
packet_row x packet None r h = absurd (false≢true h)
packet_row x packet (Some (Start i)) r h = begun_row packet r (in_stage Stage.auth x.phase h)
packet_row x packet (Some (NasRequest i at n)) r h = asked_row packet r (in_turn x.phase) h
packet_row x packet (Some (Success i)) r h = succeeded_row packet r (in_turn x.phase) h
packet_row x packet (Some (NasResponse i p m at n)) r h = absurd (false≢true h)
packet_row x packet (Some (Stop i)) r h = absurd (false≢true h)

module _ (parameters nas : List ℕ) (room : ℕ) (x : Line) where
  replied_row : {o : Option Turn} {p : Phase} → x.phase ≡ p → InTurn o p → is_some (owed o) ≡ true
      → Transition (reply parameters nas room) p (replied x parameters nas (owed o)).line.phase (replied x parameters nas (owed o)).action
  unfolding replied in_phase onward chosen owed
  replied_row e (unturned q) h = absurd (false≢true h)
  replied_row e (turned a (First i)) h = rw e first_replied
  replied_row e (turned a (Owed i)) h = rw e later_replied
  replied_row e (turned a (Answered i)) h = absurd (false≢true h)

-- the final answer, AUTH good or bad
finished_row : (x : Line) (good : ℕ) → ltb 1 good ≡ false → Is Stage.sure x.phase → (b : Bool) → eqb good 1 ≡ b
    → Transition (final good) x.phase (finished x b).line.phase (finished x b).action
unfolding finished keeps goes in_phase
finished_row x good small before true q = final_row good (eqb-true good 1 q) before
finished_row x good small before false q = bad_row good (let other = eqb-false good 1 q in let most = ltb-false 1 good small in none_other good other most) before
  where
    none_other : (n : ℕ) → (n ≡ 1 → ⊥) → n ≤ 1 → n ≡ 0
    none_other n other most = either n 0 (λ e. e) (λ e. absurd (other (omega arith)))

-- one clause for each event
module _ (x : Line) (out : Bool) where
  pub rows : (e : Event) → Passes e out x → Transition e x.phase (outcome e x).line.phase (outcome e x).action
  unfolding outcome is_allowed is_malformed is_out_of_range keeps goes in_phase congested with_children
  rows (start g text room) h = started_row x g text room (config_of text) (not-false (is_some (config_of text)) h.well_formed_lem) (in_stage Stage.idle x.phase h.allowed)
  rows (country n networks text room) h =
      answered_row x n networks text room (Selection.country_reply (eqb n 1) (networks_in networks)) (config_of text) (not-false (is_some (config_of text)) h.well_formed_lem)
      (in_stage Stage.country x.phase h.allowed)
  rows (address list) h = addressed_row x list (addresses_in list) (in_stage Stage.name x.phase h.allowed)
  rows begin h = begin_row (in_stage Stage.chosen x.phase h.allowed)
  rows init h = init_row (in_stage Stage.init x.phase h.allowed)
  rows (eap packet) h = packet_row x packet (read_packet packet) refl h.allowed
  rows (reply parameters nas room) h = replied_row parameters nas room x refl (in_turn x.phase) h.allowed
  rows (final good) h = finished_row x good h.in_range_lem (in_stage Stage.sure x.phase h.allowed) (eqb good 1) refl
  rows (error number) h = error_notified (is_underway x.phase h.allowed)
  rows (congestion authenticated timer) h =
      let known = eqb-true authenticated 1 (and_left (eqb authenticated 1) (underway x.phase) h.allowed) in
      let ends = is_underway x.phase (and_right (eqb authenticated 1) (underway x.phase) h.allowed) in
      subst (λ (n : ℕ). Transition (congestion n timer) x.phase Idle (Action.Released (ended x.phase))) (sym known) (After.congestion_told ends)
  rows give_up h =
      let busy = not (is_in Stage.idle x.phase) in
      let calm = not (is_in Stage.live x.phase) in
      given_up (not-true (is_in Stage.idle x.phase) (and_left busy calm h.allowed)) (not-true (is_in Stage.live x.phase) (and_right busy calm h.allowed))
  rows (child_made spi session) h = made_row spi session (in_stage Stage.live x.phase h.allowed)
  rows (child_deleted spi) h = taken_row spi (in_stage Stage.live x.phase (and_left (is_in Stage.live x.phase) (has_spi spi x.children) h.allowed))
  rows ike_delete h = deleted_row (in_stage Stage.live x.phase h.allowed)

-- number 9 of the numbers of each row
chosen_ended : {q : Phase} {action : Action} → Chooses q action → get_or (numbers_of action) 9 0 ≡ 0
unfolding numbers_of twelve
chosen_ended chooses = refl
chosen_ended finds_none = refl

decided_ended : {f : Facts} {q : Phase} {action : Action} → Decides f q action → get_or (numbers_of action) 9 0 ≡ 0
unfolding numbers_of twelve
decided_ended asks_text = refl
decided_ended asks_built = refl
decided_ended (goes_through c) = chosen_ended c
decided_ended stops = refl

underway_ended : {p : Phase} {b : Bool} → Underway p b → ◌≡◌ {A = ℕ} (cond b 1 0) (cond (is_in Stage.eap p) 1 0)
unfolding is_in
underway_ended in_auth = refl
underway_ended in_eap_lem = refl
underway_ended in_sure = refl

row_ended : {e : Event} {p q : Phase} {action : Action} → Transition e p q action → get_or (numbers_of action) 9 0 ≡ cond (ends_eap e && is_in Stage.eap p) 1 0
unfolding ends_eap numbers_of twelve
row_ended start_asks = refl
row_ended (start_decides d) = decided_ended d
row_ended (country_decides d) = decided_ended d
row_ended (address_answered_lem c) = chosen_ended c
row_ended begun = refl
row_ended init_answered = refl
row_ended (eap_started r) = refl
row_ended (eap_asked r) = refl
row_ended first_replied = refl
row_ended later_replied = refl
row_ended (eap_succeeded r) = refl
row_ended final_good = refl
row_ended final_bad = refl
row_ended (error_notified u) = underway_ended u
row_ended (After.congestion_told u) = underway_ended u
row_ended (given_up i l) = refl
row_ended child_added = refl
row_ended child_taken = refl
row_ended ike_deleted = refl

pub phase_after : (tenant line time : ℕ) (e : Event) (l : List ℕ) (x : Line) → Timed tenant line time e l x
    → PhaseAfter e x.phase (run (timed tenant line time e) l).answer.numbers (line_in (run (timed tenant line time e) l).table tenant line)
unfolding current answer_of
phase_after tenant line time e l x t =
    let y = current time x in
    let r = rows y (ltb last_time time) e (event_passes tenant line time e l x t) in
    let said = ap (λ (a : Answer). a.numbers) (timed_run tenant line time e l x t).0 in
    record {
      line = (outcome e y).line;
      stands = (timed_run tenant line time e l x t).1;
      action = (outcome e y).action;
      says = said;
      row = r;
      eap_ended = ap (λ (ns : List ℕ). get_or ns 9 0) said ∙ row_ended r;
    }
