-- What a timed call returns follows from less than its whole line: most events look at the bare phase alone, and change only where it stands.
use Rattle.std.specs.Prelude.{Some}
use Prim.Native.Nat.{ℕ, zero, suc, ◌≤◌}
use mathlib.Core.Bool.{Bool}
use mathlib.Core.List.{List, [], ◌∷◌, ◌++◌}
use mathlib.Core.Path.{◌≡◌, refl, sym, ap, ◌∙◌, subst}
use native.Mathlib.Omega.{arith}
use lib.Dec.{eqb, ltb}
use lib.ListN.{length}
use Rattle.octets.specs.Part.{padded}
use Rattle.octets.specs.Refusal.{Refusal, refusal}
use Rattle.octets.specs.Row.{only}
use Rattle.octets.proofs.Search.{and_right}
use Rattle.address.specs.declared.Hold.{Hold}
use Rattle.children.specs.declared.Child.{Child}
use Rattle.eap.specs.Packet.{read_packet}
use Rattle.phase.specs.Chosen.{chosen}
use Rattle.phase.specs.Stage as Stage
use Rattle.phase.specs.Standing.{Continues, bare, ends, restored, stays}
use Rattle.phase.specs.declared.Phase.TheVariants.{Idle, Init, Auth}
use Rattle.phase.proofs.Standings.{restored_bare}
use Rattle.record.specs.Changes.{current, first_end, held_for, in_phase, with_children, with_holds}
use Rattle.record.specs.Line.{Line}
use Rattle.rules.specs.Answer.{event_room}
use Rattle.rules.specs.Call.{Event, start, country, address, begin, init, eap, reply, final, error, congestion, give_up, child_made, child_deleted, ike_delete, last_time}
use Rattle.rules.specs.Life.{Outcome, goes, keeps, outcome}
use Rattle.rules.specs.Phases.{underway}
use Rattle.rules.specs.Refusals.{has_no_room, is_allowed, is_held_full, is_out_of_range, is_spi_taken, lacks_parameters, refusals_of}
use Rattle.rules.specs.Run.{Result}
use Rattle.rules.specs.View.{fresh}
use Rattle.step.proofs.Bare.{Moves, address_or, answer_goes, bare_due, bare_ended, bare_in, bare_underway, bare_line, bared, changes, congested_goes, congested_one, finished_moves, holding, idle_for, onward_for, packet_moves, renamed_first, replied_moves, restoring, underway_address}
use Rattle.rules.proofs.Goes.{addressed_goes, answered_goes, onto, phased, started_goes}
use Rattle.rules.proofs.Rows.{passes}
use Rattle.step.specs.Kinds.{Kind, congesting, kind_of, move, selection, tunnel}
use Rattle.step.specs.Laws.{result_by, stored_by}
use Rattle.step.specs.Step.{Effect, effect, outcome_by}

-- the same effect with another line
unfoldable pub with_line : Effect → Line → Effect
with_line f x = record { refusal = f.refusal; line = x; action = f.action; part = f.part; buffer = f.buffer }

-- the line x with what an event makes of a line: its phase restored, and its children
abbrev pub tunnelled : Line → Line → Line
tunnelled x z = with_children (restoring x z) z.children

-- the same with a child behind those of x
abbrev pub adding : Line → Child → Line → Line
adding x child z = with_children (restoring x z) (x.children ++ child ∷ [])

-- an event is refused on x as it is on y, and its outcome on x is that on y, put onto another line
record Same (e : Event) (x y : Line) (put : Line → Line) : Type 0 where
  tests : (out : Bool) → refusals_of e out x ≡ refusals_of e out y
  outcomes : outcome e x ≡ onto put (outcome e y)

-- the same where y is in the bare phase of x, and the phase of x goes on to that of the outcome on y
record Bare (e : Event) (x y : Line) (put : Line → Line) : Type 0 where
  tests : (out : Bool) → refusals_of e out x ≡ refusals_of e out y
  moves : Moves x put (outcome e x) (outcome e y)

-- what each kind needs of a line x
abbrev ByKind : Kind → Event → Type 0
ByKind selection e = (x y : Line) → Same e x (with_holds (in_phase y x.phase) x.holds) (phased x)
ByKind move e = (x y : Line) → Bare e x (in_phase y (bare x.phase)) (restoring x)
ByKind congesting e = (x : Line) → Same e x (bare_line x) (holding x)
ByKind tunnel e = (x y : Line) → Bare e x (with_children (in_phase y (bare x.phase)) x.children) (tunnelled x)

-- one clause for each event
by_kind : (e : Event) → ByKind (kind_of e) e
unfolding refusals_of is_out_of_range is_allowed is_spi_taken has_no_room is_held_full lacks_parameters outcome keeps goes in_phase with_children with_holds chosen restored
by_kind (start g t room) = λ x y. record { tests = λ out. refl; outcomes = started_goes x y _ t _ }
by_kind (country n networks t room) = λ x y. record { tests = λ out. refl; outcomes = answered_goes x y _ _ t _ }
by_kind (address list) = λ x y. record { tests = λ out. refl; outcomes = addressed_goes x y _ _ }
by_kind begin = λ x y. record { tests = λ out. rw (bare_in x.phase Stage.chosen); moves = changes x y (onward_for _ Init (λ b. refl) (λ b. refl)) _ _ _ }
by_kind init = λ x y. record { tests = λ out. rw (bare_in x.phase Stage.init); moves = changes x y (onward_for _ Auth (λ b. refl) (λ b. refl)) _ _ _ }
by_kind (eap packet) = λ x y. record { tests = λ out. rw (bare_due (read_packet packet) x.phase); moves = packet_moves x y packet _ }
by_kind (reply parameters nas room) = λ x y. record { tests = λ out. rw (bared x.phase).turn; moves = rw (bared x.phase).turn (replied_moves x y parameters nas _) }
by_kind (final good) = λ x y. record { tests = λ out. rw (bare_in x.phase Stage.sure); moves = finished_moves x y _ }
by_kind (error number) = λ x y. record { tests = λ out. rw (bare_underway x.phase); moves = rw (bare_ended x.phase) (changes x y (idle_for _) _ _ _) }
by_kind (congestion authenticated timer) = λ x. record { tests = λ out. rw (bare_underway x.phase); outcomes = congested_goes x _ }
by_kind give_up = λ x y. record { tests = λ out. rw (bare_in x.phase Stage.idle, bare_in x.phase Stage.live); moves = changes x y (idle_for _) _ _ _ }
by_kind (child_made spi session) = λ x y. record { tests = λ out. rw (bare_in x.phase Stage.live); moves = record { says = rw (restored_bare x.phase); continues = stays } }
by_kind (child_deleted spi) = λ x y. record { tests = λ out. rw (bare_in x.phase Stage.live); moves = record { says = rw (restored_bare x.phase); continues = stays } }
by_kind ike_delete = λ x y. record { tests = λ out. rw (bare_in x.phase Stage.live); moves = record { says = refl; continues = ends } }

-- a line of which only the bare phase of x is known, and one of which its children are known too
abbrev pub bare_of : Line → Line
bare_of x = in_phase fresh (bare x.phase)

abbrev pub bare_tunnels : Line → Line
bare_tunnels x = with_children (bare_of x) x.children

module _ (e : Event) (time pair : ℕ) (l : List ℕ) (x : Line) where
  abbrev found : Line
  found = current time x

  -- what the event returns on x is what it returns on y, its line put onto another
  abbrev pub From : Line → (Line → Line) → Type 0
  From y put = result_by (effect e time x) pair l ≡ result_by (with_line (effect e time y) (put (effect e time y).line)) pair l

  -- what is returned by a refusal number and an outcome
  abbrev returned : ℕ → Outcome → Result
  returned n o = result_by (record { refusal = n; line = o.line; action = o.action; part = o.part; buffer = padded (event_room e) o.written }) pair l

  -- the tests give the same number, and by it the line is stored or not
  from_same : (y : Line) (put : Line → Line) → Same e found (current time y) put → From y put
  unfolding effect with_line outcome_by result_by stored_by
  from_same y put s =
      ap (λ (rs : List Refusal). returned (refusal rs) (outcome_by (refusal rs) e x found)) (s.tests (ltb last_time time))
      ∙ go (refusal (refusals_of e (ltb last_time time) (current time y)))
    where
      go : (n : ℕ) → returned n (outcome_by n e x found) ≡ returned n (onto put (outcome_by n e y (current time y)))
      go zero = ap (returned zero) s.outcomes
      go (suc n) = refl

  -- what an event does on a line in the bare phase
  from_bare : (y : Line) (put : Line → Line) → Bare e found (current time y) put → From y put
  from_bare y put b = from_same y put (record { tests = b.tests; outcomes = b.moves.says })

  -- the phase of x goes on to the one that the event leaves there, accepted or refused
  goes_on : (y : Line) (put : Line → Line) → y.phase ≡ bare x.phase → Bare e found (current time y) put → Continues x.phase (effect e time y).line.phase
  unfolding effect outcome_by current
  goes_on y put is b = go (refusal (refusals_of e (ltb last_time time) (current time y)))
    where
      go : (n : ℕ) → Continues x.phase (outcome_by n e y (current time y)).line.phase
      go zero = b.moves.continues
      go (suc n) = rw is stays

  -- a move needs the bare phase alone, and changes only where it stands
  by_move : kind_of e ≡ move → Bare e found (current time (bare_of x)) (restoring found)
  unfolding current in_phase
  by_move h = subst (λ (k : Kind). ByKind k e) h (by_kind e) found (current time fresh)

  pub by_standing : kind_of e ≡ move → From (bare_of x) (λ z. in_phase found (restored x.phase z.phase))
  unfolding current
  by_standing h = from_bare (bare_of x) (restoring found) (by_move h)

  pub move_continues : kind_of e ≡ move → Continues x.phase (effect e time (bare_of x)).line.phase
  unfolding in_phase
  move_continues h = goes_on (bare_of x) (restoring found) refl (by_move h)

  -- a tunnel's event needs the bare phase and the children
  by_tunnel : kind_of e ≡ tunnel → Bare e found (current time (bare_tunnels x)) (tunnelled found)
  unfolding current in_phase with_children
  by_tunnel h = subst (λ (k : Kind). ByKind k e) h (by_kind e) found (current time fresh)

  pub on_bare_tunnels : kind_of e ≡ tunnel → From (bare_tunnels x) (λ z. with_children (in_phase found (restored x.phase z.phase)) z.children)
  unfolding current
  on_bare_tunnels h = from_bare (bare_tunnels x) (tunnelled found) (by_tunnel h)

  pub tunnel_continues : kind_of e ≡ tunnel → Continues x.phase (effect e time (bare_tunnels x)).line.phase
  unfolding in_phase with_children
  tunnel_continues h = goes_on (bare_tunnels x) (tunnelled found) refl (by_tunnel h)

module _ (time pair : ℕ) (l : List ℕ) (x : Line) where
  -- the address answer needs the bare phase and the holds, and changes the phase alone
  pub answered_bare : (list : List ℕ) → From (address list) time pair l x (with_holds (bare_of x) x.holds) (phased (current time x))
  unfolding current in_phase with_holds refusals_of is_out_of_range is_allowed is_spi_taken has_no_room is_held_full outcome
  answered_bare list = from_same (address list) time pair l x (with_holds (bare_of x) x.holds) (phased (current time x)) (record {
    tests = λ out. rw (bare_in x.phase Stage.name);
    outcomes = rw (bared x.phase).facts (answer_goes (current time x) (current time fresh) _ _);
  })

  -- a child that is made stands behind the others
  pub child_added : (spi session : ℕ) → From (child_made spi session) time pair l x (bare_tunnels x) (adding (current time x) (record { spi = spi; session = session }))
  unfolding current in_phase with_children outcome
  child_added spi session =
      let child : Child = record { spi = spi; session = session } in
      let same = by_tunnel (child_made spi session) time pair l x refl in
      from_same (child_made spi session) time pair l x (bare_tunnels x) (adding (current time x) child) (record { tests = same.tests; outcomes = same.moves.says })

  module _ (authenticated timer : ℕ) where
    abbrev e : Event
    e = congestion authenticated timer

    -- a line that is congested has an address
    pub congested_address : (effect e time (bare_of x)).refusal ≡ 0 → chosen x.phase ≡ Some (address_or (chosen x.phase))
    unfolding effect is_allowed current in_phase
    congested_address h =
        let allowed = (passes e (ltb last_time time) (current time (bare_of x)) h).allowed in
        underway_address x.phase (sym (bare_underway x.phase) ∙ and_right (eqb authenticated 1) (underway (bare x.phase)) allowed)

    -- it adds one hold at most
    pub one_held : length (effect e time (bare_of x)).line.holds ≤ 1
    unfolding effect outcome_by outcome current in_phase fresh only
    one_held = go (refusal (refusals_of e (ltb last_time time) (current time (bare_of x))))
      where
        go : (n : ℕ) → length (outcome_by n e (bare_of x) (current time (bare_of x))).line.holds ≤ 1
        go zero = congested_one (current time x) _
        go (suc n) = omega arith

    -- congestion needs the bare phase alone: the line's own address is held until the end of the first hold that is there, if any
    pub congested_bare : From e time pair l x (bare_of x) (λ z. held_for time (address_or (chosen x.phase)) (first_end z.holds) x)
    unfolding current in_phase fresh only held_for
    congested_bare =
        from_same e time pair l x (bare_of x) (holding (current time x)) (by_kind e (current time x))
        ∙ ap (λ (held : List Hold). result_by (with_line (effect e time (bare_of x)) (with_holds (in_phase (current time x) Idle) ((current time x).holds ++ held))) pair l)
        (renamed_first (address_or (chosen x.phase)) (effect e time (bare_of x)).line.holds one_held)
