-- What a timed call returns, by its entry tests and by its step.
use Rattle.std.specs.Prelude.{Result, Ok, Err}
use Prim.Native.Nat.{ℕ}
use mathlib.Core.Bool.{Bool, false}
use mathlib.Core.List.{List, []}
use mathlib.Core.Path.{◌≡◌, refl, sym, ap, ◌∙◌, subst}
use native.Mathlib.Omega.{arith}
use Rattle.octets.specs.Part.{part, zeros}
use Rattle.children.specs.Listed.{children_of}
use Rattle.children.specs.declared.Child.{Child}
use Rattle.phase.specs.Standing.{Continues, bare, restored, standing}
use Rattle.phase.specs.declared.Standing.{Standing}
use Rattle.refusal.specs.Numbers.{number_of}
use Rattle.refusal.specs.declared.Refusal.{Refusal}
use Rattle.record.specs.Changes.{current, in_phase, unheld, with_children}
use Rattle.record.specs.Line.{Line, line_of}
use Rattle.record.specs.Octets.{line_from}
use Rattle.records.specs.Stores.{GoesAt}
use Rattle.table.specs.Table.{slot}
use Rattle.rules.specs.Answer.{event_room, lent_in, number_count, numbers_of, part_named, PartWithin, refused, room_of, twelve}
use Rattle.rules.specs.Call.{Event, timed}
use Rattle.rules.specs.Refusals.{is_short, least_event_room, least_room}
use Rattle.rules.specs.Run.{run}
use Rattle.rules.specs.Run as Run
use Rattle.rules.specs.View.{fresh}
use Rattle.rules.specs.declared.Action.{Action}
use Rattle.step.specs.Kinds.{kind_of, move, tunnel}
use Rattle.step.specs.Laws.{result_by, stored_by}
use Rattle.step.specs.Step.{Effect, effect, effect_in}
use Rattle.step.specs.declared.Done.{Done}
use Rattle.step.proofs.Views.{From, by_standing, move_continues, on_bare_tunnels, tunnel_continues, with_line}
use Rattle.frame.specs.Entering.{Enters, Passes}
use Rattle.frame.specs.Returned.{returned, told}
use Rattle.frame.specs.declared.Entered.{Entered}
use Rattle.frame.proofs.Stores.{kept, stored}

-- an event without an answer buffer, which needs none
module _ (e : Event) (room : event_room e ≡ 0) where
  pub no_buffer : [] ≡ zeros (event_room e)
  unfolding zeros
  no_buffer = rw room

  pub never_short : least_event_room e ≡ 0 → (tenant line time : ℕ) → is_short (timed tenant line time e) ≡ false
  unfolding is_short room_of least_room
  never_short least tenant line time = rw (room, least)

module _ (tenant line time : ℕ) (e : Event) (short : Bool) (l : List ℕ) (room_is : is_short (timed tenant line time e) ≡ short) where
  -- refused at its entry: zeros everywhere, and the table as it was
  pub turned_away : (n : Refusal) → Enters (Err n) tenant line time short l → {buffer : List ℕ} → buffer ≡ zeros (event_room e) → told (Err n) [] buffer l ≡ run (timed tenant line time e) l
  unfolding returned refused
  turned_away n enters cleared = rw cleared (sym (enters e room_is))

  module _ (r : Entered) (passes : Passes r tenant line time short l) where
    -- the line that the call is about
    abbrev own : Line
    own = line_from (slot l r.at)

    abbrev found : Line
    found = current time own

    -- the line that the call finds in the phase of another, and with its children too
    abbrev phased : Line → Line
    phased x = in_phase found (restored own.phase x.phase)

    abbrev tunnelled : Line → Line
    tunnelled x = with_children (phased x) x.children

    -- what the event comes to on a line y, its line put onto another, is what the call returns
    module _ (put : Line → Line) (y : Line) (from : From e time r.pair l own y put) where
      comes : (f : Effect) → f ≡ effect e time y → result_by (with_line f (put f.line)) r.pair l ≡ run (timed tenant line time e) l
      comes f is = ap (λ (g : Effect). result_by (with_line g (put g.line)) r.pair l) is ∙ sym from ∙ sym (passes.result_is e room_is)

      module _ {part buffer : List ℕ} (z : Line) where
        -- it is refused: the table stays as it was
        pub declined : (n : Refusal) → record { refusal = number_of n; line = z; action = Action.Nothing; part = part; buffer = buffer } ≡ effect e time y
            → told (Err n) part buffer l ≡ run (timed tenant line time e) l
        unfolding returned result_by with_line numbers_of twelve zeros
        declined n is =
            let f : Effect = record { refusal = number_of n; line = z; action = Action.Nothing; part = part; buffer = buffer } in
            ap (λ (m : List ℕ). told (Err n) part buffer m) (kept n r.pair (put z) l) ∙ comes f is

        -- it is accepted: the line is stored
        module _ (a : Action) (is : record { refusal = 0; line = z; action = a; part = part; buffer = buffer } ≡ effect e time y) {table : List ℕ} where
          pub accepted : {x : Line} → put z ≡ x → table ≡ stored_by 0 r.pair x l → told (Ok a) part buffer table ≡ run (timed tenant line time e) l
          unfolding returned result_by with_line
          accepted same stores =
              let f : Effect = record { refusal = 0; line = z; action = a; part = part; buffer = buffer } in
              rw (stores, sym same) (comes f is)

          -- the line's own phase goes on to that of the step's line, and where it stands is stored, with another change
          pub gone : Continues own.phase (effect e time y).line.phase → (change : Line → Line) → put z ≡ change (in_phase found (restored own.phase z.phase))
              → {s : Standing} → s ≡ standing z.phase → GoesAt l r.at time s table change → told (Ok a) part buffer table ≡ run (timed tenant line time e) l
          gone on change same stands goes =
              accepted same (stored r l passes.stands _ (goes z.phase (subst (λ (f : Effect). Continues own.phase f.line.phase) (sym is) on) (sym stands)))

    module _ (part buffer : List ℕ) where
      -- what a step comes to on a line that is read is what it comes to on the line that it is
      pub on_read : {z y : Line} → z ≡ y → (s : Result Done Refusal) → effect_in z s part buffer ≡ effect e time z → effect_in y s part buffer ≡ effect e time y
      on_read read s is = subst (λ (y : Line). effect_in y s part buffer ≡ effect e time y) read is

      -- a move, on a line of which only the bare phase is known
      module _ (kind : kind_of e ≡ move) {z : Line} (read : z ≡ unheld (bare own.phase) []) where
        pub stayed : (n : Refusal) → effect_in z (Err n) part buffer ≡ effect e time z → told (Err n) part buffer l ≡ run (timed tenant line time e) l
        unfolding unheld fresh in_phase
        stayed n is = declined phased _ (by_standing e time r.pair l own kind) _ n (on_read read (Err n) is)

        pub stood : (d : Done) → effect_in z (Ok d) part buffer ≡ effect e time z → {s : Standing} → s ≡ standing d.line.phase → {table : List ℕ} → GoesAt l r.at time s table (λ x. x)
            → told (Ok d.action) part buffer table ≡ run (timed tenant line time e) l
        unfolding unheld fresh in_phase line_of
        stood d is stands goes =
            gone phased _ (by_standing e time r.pair l own kind) (line_of d.line) d.action (on_read read (Ok d) is) (move_continues e time r.pair l own kind) (λ x. x) refl stands goes

      -- an event that changes the children, on a line of which only the bare phase and the children are known
      module _ (kind : kind_of e ≡ tunnel) {z : Line} (read : z ≡ unheld (bare own.phase) own.children) where
        pub left : (n : Refusal) → effect_in z (Err n) part buffer ≡ effect e time z → told (Err n) part buffer l ≡ run (timed tenant line time e) l
        unfolding unheld fresh in_phase with_children
        left n is = declined tunnelled _ (on_bare_tunnels e time r.pair l own kind) _ n (on_read read (Err n) is)

        pub untunnelled : (d : Done) → effect_in z (Ok d) part buffer ≡ effect e time z → {s : Standing} → s ≡ standing d.line.phase
            → {cs : List Child} → cs ≡ children_of d.line.children → {table : List ℕ} → GoesAt l r.at time s table (λ x. with_children x cs)
            → told (Ok d.action) part buffer table ≡ run (timed tenant line time e) l
        unfolding unheld fresh in_phase with_children line_of
        untunnelled d is stands {cs} are goes =
            gone tunnelled _ (on_bare_tunnels e time r.pair l own kind) (line_of d.line) d.action (on_read read (Ok d) is) (tunnel_continues e time r.pair l own kind) (λ x. with_children x cs) (rw are refl) stands goes

-- a refused call returns no part
pub no_part : (n : Refusal) (text name packet buffer table : List ℕ) {r : Run.Result} → told (Err n) [] buffer table ≡ r
    → (told (Err n) (part_named (zeros number_count) text name packet) buffer table ≡ r) × PartWithin (zeros number_count) text name packet
unfolding part_named lent_in part zeros
no_part n text name packet buffer table is = (is, omega arith)
