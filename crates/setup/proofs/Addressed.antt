-- What the address answer returns, by its step.
use Rattle.std.specs.Prelude.{Result, Ok, Err}
use Prim.Native.Nat.{ℕ}
use mathlib.Core.Bool.{false}
use mathlib.Core.List.{List, []}
use mathlib.Core.Path.{◌≡◌, refl, ap, ◌∙◌}
use Rattle.phase.specs.Standing.{bare}
use Rattle.refusal.specs.declared.Refusal.{Refusal}
use Rattle.record.specs.Changes.{current, in_phase, unheld, with_holds}
use Rattle.record.specs.Line.{Line, line_of}
use Rattle.record.specs.Octets.{line_from}
use Rattle.table.specs.Table.{slot}
use Rattle.rules.specs.Answer.{event_room, room_of}
use Rattle.rules.specs.Call.{Event, address, timed}
use Rattle.rules.specs.Refusals.{is_short, least_event_room, least_room}
use Rattle.rules.specs.Run.{run}
use Rattle.rules.specs.View.{fresh}
use Rattle.rules.proofs.Goes.{phased}
use Rattle.step.specs.Laws.{stored_by}
use Rattle.step.specs.Step.{effect}
use Rattle.step.specs.declared.Done.{Done}
use Rattle.step.proofs.Views.{answered_bare, bare_of}
use Rattle.attempt.specs.Attempt.{answered_on}
use Rattle.frame.specs.Entering.{Passes}
use Rattle.frame.specs.Returned.{told}
use Rattle.frame.specs.declared.Entered.{Entered}
use Rattle.frame.proofs.Timed.{accepted, declined}

-- the line that a call is about, behind its entry tests, read with its bare phase alone
module _ (tenant line time : ℕ) (l : List ℕ) (r : Entered) (passes : Passes r tenant line time false l) where
  abbrev own : Line
  own = line_from (slot l r.at)

  module _ {z : Line} (read : z ≡ unheld (bare own.phase) []) (list : List ℕ) where
    abbrev answer : Event
    answer = address list

    never : is_short (timed tenant line time answer) ≡ false
    unfolding is_short room_of least_room least_event_room event_room
    never = refl

    on_held : (s : Result Done Refusal) → answered_on z s time own.holds ≡ effect answer time (with_holds z own.holds) → answered_on z s time own.holds ≡ effect answer time (with_holds (bare_of own) own.holds)
    unfolding unheld fresh in_phase with_holds
    on_held s is = is ∙ ap (λ (y : Line). effect answer time (with_holds y own.holds)) read

    -- an answer that is refused
    pub unanswered : (n : Refusal) → answered_on z (Err n) time own.holds ≡ effect answer time (with_holds z own.holds) → told (Err n) [] [] l ≡ run (timed tenant line time answer) l
    unanswered n is =
        declined tenant line time answer false l never r passes (phased (current time own)) (with_holds (bare_of own) own.holds) (answered_bare time r.pair l own list) _ n (on_held (Err n) is)

    -- an answer that is accepted: the phase is stored
    pub addressed : (d : Done) → answered_on z (Ok d) time own.holds ≡ effect answer time (with_holds z own.holds) → {table : List ℕ} → table ≡ stored_by 0 r.pair (in_phase (current time own) d.line.phase) l
        → told (Ok d.action) [] [] table ≡ run (timed tenant line time answer) l
    unfolding line_of in_phase with_holds
    addressed d is stores =
        accepted tenant line time answer false l never r passes (phased (current time own)) (with_holds (bare_of own) own.holds) (answered_bare time r.pair l own list) _ d.action (on_held (Ok d) is) refl stores
