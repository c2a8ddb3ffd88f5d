-- What an accepted timed call on a line answers and leaves.
use Rattle.std.specs.Prelude.{Option, None, Some}
use Prim.Native.Nat.{ℕ, ◌≤◌}
use mathlib.Core.Bool.{Bool, false, cond}
use mathlib.Core.List.{List, [], ◌∷◌}
use mathlib.Core.Path.{◌≡◌, refl, sym, ap, ◌∙◌, subst}
use native.Mathlib.Omega.{arith}
use lib.Dec.{eqb, ltb}
use lib.ListN.{drop}
use borrow.Author.Tests.{eq-eqb, ltb-false}
use Rattle.octets.specs.Refusal.{refusal}
use Rattle.octets.specs.Row.{place}
use Rattle.octets.proofs.Search.{or_left}
use Rattle.address.specs.Address.{held_addresses, permitted}
use Rattle.address.specs.declared.Address.{Address}
use Rattle.config.specs.Settings.{Settings, config_of}
use Rattle.gateway.specs.Gateway.{choose, found_at}
use Rattle.gateway.specs.declared.Found.{Found}
use Rattle.lists.specs.Lists.{addresses_in, networks_in}
use Rattle.place.specs.declared.Facts.{Facts}
use Rattle.record.specs.Changes.{current}
use Rattle.record.specs.Line.{Line}
use Rattle.selection.specs.Selection as Selection
use Rattle.selection.specs.Stops.{Ends, Exactly, addresses, country_reached, start_reached, stop_found, stop_of}
use Rattle.selection.specs.declared.Choice.{Choice}
use Rattle.selection.proofs.Ends.{stops_exactly}
use Rattle.table.specs.Slots.{line_at, pair_in, slot_line, slots_of}
use Rattle.table.specs.Table.{is_table}
use Rattle.rules.specs.Answer.{numbers_of, twelve}
use Rattle.rules.specs.Call.{Event, start, country, address, Call, timed, facts_of, last_time, pair_of, tenant_of}
use Rattle.rules.specs.declared.StartNumbers.{StartNumbers}
use Rattle.rules.specs.Claims.{NoRow, Timed, is_past_last, line_in, on_line, passed_said, stop_said}
use Rattle.rules.specs.Life.{Outcome, address_answered, country_answered, name_asked, decided, gateway_found, goes, outcome, started}
use Rattle.rules.specs.Phases.{facts_in}
use Rattle.rules.specs.Refusals.{is_early, is_out_of_range, refusals_of}
use Rattle.rules.specs.Run.{Result, Step, answer_of, run, step, step_of, timed_step}
use Rattle.rules.specs.View.{View, line_found, line_or, line_seen, view_in}
use Rattle.rules.proofs.Accepted.{event_number, own_is, ready, timed_pair}
use Rattle.rules.proofs.Acts.{act_line, line_after}
use Rattle.rules.proofs.Refused.{given_is, no_row}
use Rattle.rules.proofs.Rows.{Passes, passes}
use Rattle.rules.proofs.Runs.{accepted, number}

module _ (tenant line time : ℕ) (e : Event) (l : List ℕ) (x : Line) (t : Timed tenant line time e l x) where
  abbrev c : Call
  c = timed tenant line time e

  abbrev v : View
  v = view_in c l

  abbrev o : Outcome
  o = outcome e (current time x)

  no_number : number c l ≡ 0
  no_number = sym (given_is c l) ∙ t.accepted

  -- no row of the table of refusal numbers applies
  no_refusal : NoRow c v
  no_refusal = no_row c v no_number

  own_seen : line_seen v line ≡ Some x
  unfolding view_in tenant_of
  own_seen = own_is tenant line (timed_pair tenant line time e v no_refusal) (slots_of l) (is_table l) ∙ t.stands

  own_line_lem : line_found line time v ≡ current time x
  unfolding line_found line_or
  own_line_lem = ap (λ (o : Option Line). current time (line_or o)) own_seen

  -- the time isn't earlier than the line's, and not past the last one
  pub times_rise : (x.time ≤ time) × (time ≤ last_time)
  unfolding is_early is_past_last line_or
  times_rise =
      let tested : ltb time (line_or (line_seen v line)).time ≡ false = no_refusal.row_7 in
      let in_range_lem : ltb last_time time ≡ false = or_left (is_past_last c) (on_line is_out_of_range c v) no_refusal.row_8 in
      (ltb-false time x.time (ap (λ (o : Option Line). ltb time (line_or o).time) (sym own_seen) ∙ tested), ltb-false last_time time in_range_lem)

  -- the step is that of the line
  line_step : step_of c l ≡ timed_step tenant line e (current time x)
  unfolding step_of step
  line_step = ap (timed_step tenant line e) own_line_lem

  -- none of the event's conditions holds
  pub no_ground : refusal (refusals_of e (ltb last_time time) (current time x)) ≡ 0
  no_ground = subst (λ (y : Line). refusal (refusals_of e (ltb last_time time) y) ≡ 0) own_line_lem (event_number tenant line time e v no_refusal)

  pub event_passes : Passes e (ltb last_time time) (current time x)
  event_passes = passes e (ltb last_time time) (current time x) no_ground

  answer_is : (run c l).answer ≡ answer_of e o
  unfolding timed_step
  answer_is = ap (λ (r : Result). r.answer) (accepted c l no_number) ∙ ap (λ (s : Step). s.answer) line_step

  line_is : line_in (run c l).table tenant line ≡ Some o.line
  unfolding timed_step line_after pair_in slot_line pair_of
  line_is =
      let p = pair_of tenant line in
      ap (λ (r : Result). line_at p (slots_of r.table)) (accepted c l no_number)
      ∙ act_line l t.good (step_of c l).act (ready c l t.octets t.good no_number) p (omega arith)
      ∙ ap (λ (s : Step). line_after s.act p (line_at p (slots_of l))) line_step
      ∙ ap (λ (b : Bool). cond b (Some o.line) (cond (eqb p p) None (line_at p (slots_of l)))) (eq-eqb p p refl)

  pub timed_run : ((run c l).answer ≡ answer_of e o) × (line_in (run c l).table tenant line ≡ Some o.line)
  timed_run = (answer_is, line_is)

-- where an outcome's answer says that selection stopped
module _ (e : Event) (x : Line) where
  found_stop : (f : Found) → stop_said (answer_of e (gateway_found x f)) ≡ stop_found f
  unfolding stop_said answer_of gateway_found goes numbers_of twelve stop_found
  found_stop (Found.Chosen a k) = refl
  found_stop (Found.Nothing k) = refl

  decided_stop : (f : Facts) (text : List ℕ) (choice : Choice) → stop_said (answer_of e (decided x f text choice)) ≡ stop_of f.version (held_addresses x.holds) choice
  unfolding stop_said answer_of decided goes name_asked numbers_of twelve stop_of
  decided_stop f text (Choice.Stop n) = refl
  decided_stop f text (Choice.Country mcc) = refl
  decided_stop f text (Choice.Text at n) = refl
  decided_stop f text (Choice.Network p) = refl
  decided_stop f text (Choice.Address a) = found_stop (choose f.version (held_addresses x.holds) (a ∷ []))

-- how many addresses an outcome's answer says were passed over
found_passed : (e : Event) (x : Line) (k : ℕ) (rest : List Address) → passed_said (answer_of e (gateway_found x (found_at k rest))) ≡ k
unfolding passed_said answer_of gateway_found found_at goes numbers_of twelve
found_passed e x k [] = refl
found_passed e x k (a ∷ rest) = refl

module _ (tenant line time : ℕ) (l : List ℕ) (x : Line) (f : Facts) (facts : facts_in x.phase ≡ Some f) where
  pub passed_exactly : (list : List ℕ) → Timed tenant line time (address list) l x
      → passed_said (run (timed tenant line time (address list)) l).answer ≡ place (permitted f.version (held_addresses (current time x).holds)) (addresses_in list)
  unfolding outcome address_answered current choose
  passed_exactly list t =
      let e = address list in
      let y = current time x in
      let k = place (permitted f.version (held_addresses y.holds)) (addresses_in list) in
      ap passed_said (timed_run tenant line time e l x t).0 ∙ ap (λ (o : Option Facts). passed_said (answer_of e (address_answered y o (addresses_in list)))) facts
      ∙ found_passed e y k (drop k (addresses_in list))

-- a claim about what is said, from one about what the definitions stop at
carried : {ends : ℕ → Type 0} {said stop : Option ℕ} → said ≡ stop → Exactly ends stop → Exactly ends said
carried {ends} q h = subst (λ (o : Option ℕ). Exactly ends o) (sym q) h

module _ (tenant line time : ℕ) (l : List ℕ) (x : Line) (s : Settings) where
  pub stops_start : (g : StartNumbers) (text : List ℕ) (room : ℕ) → Timed tenant line time (start g text room) l x → config_of text ≡ Some s
      → Exactly (Ends s g.version (held_addresses (current time x).holds) (start_reached s (facts_of g).place)) (stop_said (run (timed tenant line time (start g text room)) l).answer)
  unfolding outcome started facts_of
  stops_start g text room t q =
      let e = start g text room in
      let y = current time x in
      carried
      (ap stop_said (timed_run tenant line time e l x t).0 ∙ ap (λ (o : Option Settings). stop_said (answer_of e (started y (facts_of g) text o))) q ∙ decided_stop e y (facts_of g) text (Selection.start s (facts_of g)))
      (stops_exactly.at_start s (facts_of g) (held_addresses y.holds))

  module _ (f : Facts) (facts : facts_in x.phase ≡ Some f) where
    pub stops_country : (replied : ℕ) (networks text : List ℕ) (room : ℕ) → Timed tenant line time (country replied networks text room) l x → config_of text ≡ Some s
        → Exactly (Ends s f.version (held_addresses (current time x).holds) (country_reached s f.place (Selection.country_reply (eqb replied 1) (networks_in networks))))
        (stop_said (run (timed tenant line time (country replied networks text room)) l).answer)
    unfolding outcome country_answered current
    stops_country replied networks text room t q =
        let e = country replied networks text room in
        let y = current time x in
        let ps = Selection.country_reply (eqb replied 1) (networks_in networks) in
        carried
        (ap stop_said (timed_run tenant line time e l x t).0
        ∙ ap (λ (o : Option Facts). stop_said (answer_of e (country_answered y o ps text (config_of text)))) facts
        ∙ ap (λ (o : Option Settings). stop_said (answer_of e (country_answered y (Some f) ps text o))) q
        ∙ decided_stop e y f text (Selection.country s f ps))
        (stops_exactly.at_country s f (held_addresses y.holds) ps)

    pub stops_address : (list : List ℕ) → Timed tenant line time (address list) l x
        → Exactly (Ends s f.version (held_addresses (current time x).holds) (addresses (addresses_in list))) (stop_said (run (timed tenant line time (address list)) l).answer)
    unfolding outcome address_answered current
    stops_address list t =
        let e = address list in
        let y = current time x in
        carried
        (ap stop_said (timed_run tenant line time e l x t).0 ∙ ap (λ (o : Option Facts). stop_said (answer_of e (address_answered y o (addresses_in list)))) facts
        ∙ found_stop e y (choose f.version (held_addresses y.holds) (addresses_in list)))
        (stops_exactly.at_address s f.version (held_addresses y.holds) (addresses_in list))
