-- Every accepted event keeps a line sound.
use Rattle.std.specs.Prelude.{is_some}
use Prim.Native.Nat.{ℕ}
use mathlib.Core.Bool.{Bool, true, false, not, ◌&&◌}
use mathlib.Core.List.{List}
use mathlib.Core.Path.{◌≡◌, refl}
use native.Mathlib.Omega.{arith}
use lib.Dec.{ltb, eqb}
use lib.ListN.{length}
use borrow.Author.Tests.{le-leb, leb-false, ltb-false, not-false}
use Rattle.octets.specs.Laws.{below}
use Rattle.octets.specs.Refusal.{refusal}
use Rattle.octets.specs.Search.{all_of}
use Rattle.octets.proofs.Search.{and_left, and_right, or_left, or_right}
use Rattle.children.specs.Children.{has_spi}
use Rattle.config.specs.Settings.{config_of}
use Rattle.eap.specs.Packet.{read_packet}
use Rattle.lists.specs.Lists.{addresses_in, networks_in}
use Rattle.phase.specs.Stage.{Stage, is_in, stage_number}
use Rattle.phase.specs.declared.Phase.{Phase}
use Rattle.phase.specs.declared.Phase.TheVariants.{Init, Auth, Live}
use Rattle.record.specs.Changes.{current}
use Rattle.record.specs.Laws.{line_storable}
use Rattle.record.specs.Line.{Line}
use Rattle.record.specs.Sound.{line_sound}
use Rattle.selection.specs.Selection as Selection
use Rattle.rules.specs.Call.{Event, start, country, address, begin, init, eap, reply, final, error, congestion, give_up, child_made, child_deleted, ike_delete, event_octets, last_time, start_numbers_fit}
use Rattle.rules.specs.declared.StartNumbers.{StartNumbers}
use Rattle.rules.specs.Life.{finished, goes, keeps, outcome}
use Rattle.rules.specs.Phases.{facts_in, owed, turn_in, underway}
use Rattle.rules.specs.Refusals.{has_no_room, is_allowed, is_child, is_held_full, is_out_of_range, is_spi_taken, refusals_of}
use Rattle.rules.proofs.Children.{child_deleted_valid, child_made_valid, deleted_valid}
use Rattle.rules.proofs.Current.{current_valid}
use Rattle.rules.proofs.Eap.{due_calm, packet_storable_lem, replied_valid, taken_valid}
use Rattle.rules.proofs.Ends.{congested_valid}
use Rattle.rules.proofs.Moves.{auth_carries, goes_on, init_carries, live_carries, rests}
use Rattle.rules.proofs.Nodes.{config_storable}
use Rattle.rules.proofs.Phases.{not_idle, not_live}
use Rattle.rules.proofs.Rows.{Passes, passes}
use Rattle.rules.proofs.Selecting.{addressed_valid, addresses_storable, answered_valid, started_valid}
use Rattle.rules.proofs.Valid.{Valid, held_of, sound_of, valid_of}

-- a phase that passes a test of the rules isn't live
module _ (p : Phase) where
  calm_in : (s : Stage) → eqb (stage_number Stage.live) (stage_number s) ≡ false → is_in s p ≡ true → is_in Stage.live p ≡ false
  unfolding is_in
  calm_in s other e = not_live (is_in s) (λ a. other) p e

  calm_underway : underway p ≡ true → is_in Stage.live p ≡ false
  unfolding underway is_in
  calm_underway e = not_live underway (λ a. refl) p e

  busy_underway : underway p ≡ true → is_in Stage.idle p ≡ false
  unfolding underway is_in
  busy_underway e = not_idle underway refl p e

  calm_between : not (is_in Stage.idle p) && not (is_in Stage.live p) ≡ true → is_in Stage.live p ≡ false
  unfolding is_in
  calm_between e = not_live (λ q. not (is_in Stage.idle q) && not (is_in Stage.live q)) (λ a. refl) p e

  calm_owed : is_some (owed (turn_in p)) ≡ true → is_in Stage.live p ≡ false
  unfolding owed turn_in
  calm_owed e = not_live (λ q. is_some (owed (turn_in q))) (λ a. refl) p e

-- each event that isn't refused leaves a valid line
module _ (out : Bool) (x : Line) (v : Valid x) where
  keeps_start : (g : StartNumbers) (l : List ℕ) (room : ℕ) → Passes (start g l room) out x → Valid (outcome (start g l room) x).line
  unfolding is_out_of_range is_allowed is_held_full outcome
  keeps_start g l room p =
      let fits : not (start_numbers_fit g) ≡ false = search (or_left) in
      let calm = calm_in x.phase Stage.idle refl p.allowed in
      let few = leb-false 8 (length x.holds) p.hold_room in
      started_valid x v calm (le-leb (length x.holds) 7 (omega arith)) g (not-false (start_numbers_fit g) fits) l (config_of l) (config_storable l)

  keeps_country : (n : ℕ) (networks l : List ℕ) (room : ℕ) → Passes (country n networks l room) out x → Valid (outcome (country n networks l room) x).line
  unfolding is_allowed outcome
  keeps_country n networks l room p =
      let calm = calm_in x.phase Stage.country refl p.allowed in
      answered_valid x v calm (facts_in x.phase) refl (Selection.country_reply (eqb n 1) (networks_in networks)) l (config_of l) (config_storable l)

  keeps_address : (l : List ℕ) → all_of (below 256) l ≡ true → Passes (address l) out x → Valid (outcome (address l) x).line
  unfolding is_allowed outcome
  keeps_address l octets p =
      addressed_valid x v (calm_in x.phase Stage.name refl p.allowed) (facts_in x.phase) refl (addresses_in l) (addresses_storable l octets)

  keeps_begin : Passes begin out x → Valid (outcome begin x).line
  unfolding is_allowed outcome keeps goes
  keeps_begin p = goes_on x v (calm_in x.phase Stage.chosen refl p.allowed) Init init_carries

  keeps_init : Passes init out x → Valid (outcome init x).line
  unfolding is_allowed outcome keeps goes
  keeps_init p = goes_on x v (calm_in x.phase Stage.init refl p.allowed) Auth auth_carries

  keeps_eap : (packet : List ℕ) → all_of (below 256) packet ≡ true → Passes (eap packet) out x → Valid (outcome (eap packet) x).line
  unfolding is_allowed outcome
  keeps_eap packet octets p =
      let q = read_packet packet in
      taken_valid x v (due_calm q x.phase p.allowed) packet q (packet_storable_lem packet octets)

  keeps_reply : (parameters nas : List ℕ) (room : ℕ) → Passes (reply parameters nas room) out x → Valid (outcome (reply parameters nas room) x).line
  unfolding is_allowed outcome
  keeps_reply parameters nas room p = replied_valid x v (calm_owed x.phase p.allowed) parameters nas (owed (turn_in x.phase)) refl

  -- the final answer, AUTH good or bad
  finished_valid : is_in Stage.live x.phase ≡ false → (good : Bool) → Valid (finished x good).line
  unfolding finished keeps goes
  finished_valid calm true = goes_on x v calm Live live_carries
  finished_valid calm false = rests x v calm

  keeps_final : (good : ℕ) → Passes (final good) out x → Valid (outcome (final good) x).line
  unfolding is_allowed outcome
  keeps_final good p = finished_valid (calm_in x.phase Stage.sure refl p.allowed) _

  keeps_error : (number : ℕ) → Passes (error number) out x → Valid (outcome (error number) x).line
  unfolding is_allowed outcome goes
  keeps_error number p = rests x v (calm_underway x.phase p.allowed)

  keeps_congestion : (authenticated timer : ℕ) → Passes (congestion authenticated timer) out x → Valid (outcome (congestion authenticated timer) x).line
  unfolding is_out_of_range is_allowed outcome
  keeps_congestion authenticated timer p =
      let small = or_right (ltb 1 authenticated) (ltb 255 timer) p.in_range_lem in
      let on = and_right (eqb authenticated 1) (underway x.phase) p.allowed in
      congested_valid x v (calm_underway x.phase on) (busy_underway x.phase on) timer (ltb-false 255 timer small)

  keeps_give_up : Passes give_up out x → Valid (outcome give_up x).line
  unfolding is_allowed outcome goes
  keeps_give_up p = rests x v (calm_between x.phase p.allowed)

  keeps_child_made : (spi session : ℕ) → Passes (child_made spi session) out x → Valid (outcome (child_made spi session) x).line
  unfolding is_out_of_range is_allowed is_spi_taken has_no_room outcome
  keeps_child_made spi session p =
      let good = not-false (is_child (record { spi = spi; session = session })) p.in_range_lem in
      child_made_valid x v spi session good p.allowed p.new_spi p.child_room

  keeps_child_deleted : (spi : ℕ) → Passes (child_deleted spi) out x → Valid (outcome (child_deleted spi) x).line
  unfolding is_allowed outcome
  keeps_child_deleted spi p = child_deleted_valid x v spi (and_left (is_in Stage.live x.phase) (has_spi spi x.children) p.allowed)

  keeps_ike_delete : Valid (outcome ike_delete x).line
  unfolding outcome
  keeps_ike_delete = deleted_valid x v

  keeps_valid : (e : Event) → all_of (below 256) (event_octets e) ≡ true → Passes e out x → Valid (outcome e x).line
  unfolding event_octets
  keeps_valid (start g l room) octets p = keeps_start g l room p
  keeps_valid (country n networks l room) octets p = keeps_country n networks l room p
  keeps_valid (address l) octets p = keeps_address l octets p
  keeps_valid begin octets p = keeps_begin p
  keeps_valid init octets p = keeps_init p
  keeps_valid (eap packet) octets p = keeps_eap packet octets p
  keeps_valid (reply parameters nas room) octets p = keeps_reply parameters nas room p
  keeps_valid (final good) octets p = keeps_final good p
  keeps_valid (error number) octets p = keeps_error number p
  keeps_valid (congestion authenticated timer) octets p = keeps_congestion authenticated timer p
  keeps_valid give_up octets p = keeps_give_up p
  keeps_valid (child_made spi session) octets p = keeps_child_made spi session p
  keeps_valid (child_deleted spi) octets p = keeps_child_deleted spi p
  keeps_valid ike_delete octets p = keeps_ike_delete

-- every event that isn't refused leaves a line sound whose parts fit their octets
pub keeps_line : (e : Event) (time : ℕ) (x : Line) → all_of (below 256) (event_octets e) ≡ true → line_sound x ≡ true → line_storable x ≡ true
    → refusal (refusals_of e (ltb last_time time) (current time x)) ≡ 0
    → (line_sound (outcome e (current time x)).line ≡ true) × (line_storable (outcome e (current time x)).line ≡ true)
keeps_line e time x octets sound fits accepted =
    let out = ltb last_time time in
    let now = current time x in
    let p = passes e out now accepted in
    let before = current_valid time x (valid_of x sound fits) p.in_time in
    let after = keeps_valid out now before e octets p in
    let y = (outcome e now).line in
    (sound_of y after, held_of y after)
