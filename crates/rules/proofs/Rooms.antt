-- The answer buffer has the lent length after every call.
use Rattle.std.specs.Prelude.{Option, None, Some}
use Prim.Native.Nat.{ℕ, ◌≤◌}
use mathlib.Core.Bool.{Bool, true, false}
use mathlib.Core.List.{List, [], ◌∷◌}
use mathlib.Core.Path.{◌≡◌, refl, sym, ap, ◌∙◌}
use native.Mathlib.Omega.{arith}
use lib.Dec.{eqb, ltb}
use lib.ListN.{length}
use borrow.Author.Tests.{ltb-false, not-false}
use Rattle.response.specs.Response.{lent_out_of_range, reply_room}
use Rattle.rules.specs.Claims.{NoRow}
use Rattle.rules.proofs.Rows.{Passes, passes}
use Rattle.rules.specs.View.{view_of, line_found, view_in}
use Rattle.octets.proofs.Parts.{length_zeros, padded_length}
use Rattle.octets.proofs.Search.{either, or_left}
use Rattle.address.specs.Address.{held_addresses}
use Rattle.config.specs.Settings.{Settings, config_of}
use Rattle.eap.specs.Packet.{read_packet}
use Rattle.eap.specs.declared.Packet.{Packet}
use Rattle.eap.specs.declared.Packet.TheVariants.{Start, NasRequest, Success, NasResponse, Stop}
use Rattle.gateway.specs.Gateway.{choose}
use Rattle.gateway.specs.declared.Found.{Found}
use Rattle.lists.specs.Lists.{addresses_in, networks_in}
use Rattle.network.proofs.Names.{operator_length, visited_length}
use Rattle.network.specs.declared.Plmn.{Plmn}
use Rattle.place.specs.declared.Facts.{Facts}
use Rattle.selection.specs.Query.{built}
use Rattle.record.specs.Line.{Line}
use Rattle.response.proofs.Writing.{in_range_lem, length_response}
use Rattle.selection.specs.Selection as Selection
use Rattle.selection.specs.declared.Choice.{Choice}
use Rattle.table.specs.Table.{is_table}
use Rattle.rules.specs.Answer.{event_room, room_of}
use Rattle.rules.specs.Call.{Event, start, country, address, begin, init, eap, reply, final, error, congestion, give_up, child_made, child_deleted, ike_delete, Call, opening, closing, listing, timed, facts_of, tenant_of, last_time, listing_room}
use Rattle.rules.specs.Life.{address_answered, country_answered, decided, finished, gateway_found, goes, keeps, name_asked, outcome, packet_taken, replied, started}
use Rattle.rules.specs.Phases.{facts_in, owed, turn_in}
use Rattle.rules.specs.Refusals.{is_short, least_event_room, least_room, is_out_of_range, lacks_parameters}
use Rattle.rules.specs.Run.{Result, answer_of, bare, run, step, step_of, timed_step}
use Rattle.rules.proofs.Accepted.{event_number}
use Rattle.rules.proofs.Listings.{listing_short}
use Rattle.rules.proofs.Refused.{given_is, refusal_leaves, no_row}
use Rattle.rules.proofs.Runs.{accepted, number}

-- a name that is built has at most 52 octets
built_short : (c : Choice) → length (built c) ≤ 52
unfolding built
built_short (Choice.Stop n) = omega arith
built_short (Choice.Country mcc) = omega (arith, visited_length mcc)
built_short (Choice.Text at n) = omega arith
built_short (Choice.Network p) = omega (arith, operator_length p)
built_short (Choice.Address a) = omega arith

-- what an event writes, by what it decides
module _ (x : Line) where
  found_written : (f : Found) → (gateway_found x f).written ≡ []
  unfolding gateway_found goes
  found_written (Found.Chosen a k) = refl
  found_written (Found.Nothing k) = refl

  decided_written : (f : Facts) (t : List ℕ) (c : Choice) → (decided x f t c).written ≡ built c
  unfolding decided goes name_asked built
  decided_written f t (Choice.Stop n) = refl
  decided_written f t (Choice.Country mcc) = refl
  decided_written f t (Choice.Text at n) = refl
  decided_written f t (Choice.Network p) = refl
  decided_written f t (Choice.Address a) = found_written (choose f.version (held_addresses x.holds) (a ∷ []))

  decided_short : (f : Facts) (t : List ℕ) (c : Choice) → length (decided x f t c).written ≤ 52
  decided_short f t c = rw (decided_written f t c) (built_short c)

  started_short : (f : Facts) (t : List ℕ) (o : Option Settings) → length (started x f t o).written ≤ 52
  unfolding started goes
  started_short f t None = omega arith
  started_short f t (Some s) = decided_short f t (Selection.start s f)

  answered_short : (o : Option Facts) (ps : Option (List Plmn)) (t : List ℕ) (s : Option Settings) → length (country_answered x o ps t s).written ≤ 52
  unfolding country_answered goes
  answered_short None ps t s = omega arith
  answered_short (Some f) ps t None = omega arith
  answered_short (Some f) ps t (Some s) = decided_short f t (Selection.country s f ps)

  addressed_written : (o : Option Facts) (list : List ℕ) → (address_answered x o (addresses_in list)).written ≡ []
  unfolding address_answered goes
  addressed_written None list = refl
  addressed_written (Some f) list = found_written (choose f.version (held_addresses x.holds) (addresses_in list))

  taken_written : (packet : List ℕ) (p : Option Packet) → (packet_taken x packet p).written ≡ []
  unfolding packet_taken keeps goes
  taken_written packet None = refl
  taken_written packet (Some (Start i)) = refl
  taken_written packet (Some (NasRequest i at n)) = refl
  taken_written packet (Some (Success i)) = refl
  taken_written packet (Some (NasResponse i p m at n)) = refl
  taken_written packet (Some (Stop i)) = refl

  finished_written : (b : Bool) → (finished x b).written ≡ []
  unfolding finished keeps goes
  finished_written true = refl
  finished_written false = refl

  -- a response to AN-parameters and NAS in their ranges has at most 3,090 octets
  replied_short : (parameters nas : List ℕ) → lent_out_of_range parameters nas ≡ false → (o : Option ℕ) → length (replied x parameters nas o).written ≤ reply_room
  unfolding replied goes
  replied_short parameters nas fit None = omega arith
  replied_short parameters nas fit (Some i) =
      let fits = in_range_lem parameters nas fit in
      rw (length_response i parameters nas) (omega arith)

-- what an event that is not refused writes fits its buffer
written_fits : (e : Event) (out : Bool) (x : Line) → ltb (event_room e) (least_event_room e) ≡ false → Passes e out x → length (outcome e x).written ≤ event_room e
unfolding outcome event_room least_event_room is_out_of_range keeps goes
written_fits (start g t room) out x long p = omega (arith, ltb-false, started_short x (facts_of g) t (config_of t))
written_fits (country n networks t room) out x long p =
    omega (arith, ltb-false, answered_short x (facts_in x.phase) (Selection.country_reply (eqb n 1) (networks_in networks)) t (config_of t))
written_fits (address list) out x long p = rw (addressed_written x (facts_in x.phase) list) (omega arith)
written_fits begin out x long p = omega arith
written_fits init out x long p = omega arith
written_fits (eap packet) out x long p = rw (taken_written x packet (read_packet packet)) (omega arith)
written_fits (reply parameters nas room) out x long p =
    let fit = or_left (lent_out_of_range parameters nas) (lacks_parameters parameters x.phase) p.in_range_lem in
    omega (arith, ltb-false, replied_short x parameters nas fit (owed (turn_in x.phase)))
written_fits (final good) out x long p = rw finished_written (omega arith)
written_fits (error n) out x long p = omega arith
written_fits (congestion authenticated timer) out x long p = omega arith
written_fits give_up out x long p = omega arith
written_fits (child_made spi session) out x long p = omega arith
written_fits (child_deleted spi) out x long p = omega arith
written_fits ike_delete out x long p = omega arith

-- the buffer of an accepted call
accepted_room : (c : Call) (l : List ℕ) → NoRow c (view_in c l) → length (step_of c l).answer.buffer ≡ room_of c
unfolding step_of step view_in tenant_of room_of least_room is_short bare timed_step answer_of view_of
accepted_room (opening tenant line) l r = refl
accepted_room (closing tenant line) l r = refl
accepted_room (listing tenant room) l r =
    let sound = not-false (is_table l) r.row_1 in
    let long : ltb room listing_room ≡ false = r.row_3 in
    let short = listing_short l sound tenant in
    padded_length room _ (omega (arith, ltb-false))
accepted_room (timed tenant line time event) l r =
    let v = view_in (timed tenant line time event) l in
    let x = line_found line time v in
    padded_length (event_room event) (outcome event x).written
    (written_fits event (ltb last_time time) x r.row_3 (passes event (ltb last_time time) x (event_number tenant line time event v r)))

pub answer_room : (c : Call) (l : List ℕ) → length (run c l).answer.buffer ≡ room_of c
answer_room c l =
    either (number c l) 0 (λ e. ap (λ (r : Result). length r.answer.buffer) (accepted c l e) ∙ accepted_room c l (no_row c (view_in c l) e))
    (λ h. ap length (refusal_leaves c l (λ e. h (sym (given_is c l) ∙ e))).buffer ∙ length_zeros (room_of c))
