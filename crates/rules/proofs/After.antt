-- What an accepted timed call leaves of the line's time, holds and children.
use Rattle.std.specs.Prelude.{Option, None, Some}
use Prim.Native.Nat.{ℕ, ◌+◌, ◌*◌, ◌/◌, ◌%◌}
use mathlib.Core.Bool.{Bool, true, false, cond}
use mathlib.Core.List.{List, [], ◌∷◌, ◌++◌, append-nil}
use mathlib.Core.Path.{◌≡◌, refl, sym, ap, ◌∙◌, subst}
use lib.Dec.{eqb}
use Rattle.address.specs.declared.Address.{Address}
use Rattle.address.specs.declared.End.TheVariants.{At, Never}
use Rattle.address.specs.declared.Hold.{Hold}
use Rattle.config.specs.Settings.{config_of}
use Rattle.eap.specs.Packet.{read_packet}
use Rattle.lists.specs.Lists.{addresses_in, networks_in}
use Rattle.phase.specs.Chosen.{chosen}
use Rattle.phase.specs.declared.Phase.{Phase}
use Rattle.record.specs.Changes.{current, in_phase, with_children}
use Rattle.record.specs.Line.{Line}
use Rattle.selection.specs.Selection as Selection
use Rattle.timer.specs.Timer.{timer_of, unit_seconds}
use Rattle.timer.specs.declared.Timer.TheVariants as Timer
use Rattle.rules.specs.After.{After, children_after, congestion_hold, hold_added}
use Rattle.rules.specs.Call.{Event, start, country, address, begin, init, eap, reply, final, error, congestion, give_up, child_made, child_deleted, ike_delete, timed, facts_of}
use Rattle.rules.specs.Claims.{Timed, line_in}
use Rattle.rules.specs.Life.{Outcome, chosen_hold, congested, goes, keeps, outcome, timer_hold}
use Rattle.rules.specs.Phases.{facts_in, owed, turn_in}
use Rattle.rules.specs.Run.{run}
use Rattle.rules.proofs.Goes.{addressed_goes, answered_goes, finished_goes, packet_goes, replied_goes, started_goes}
use Rattle.rules.proofs.Timed.{timed_run}

-- the timer octet sets the hold that its unit and count say
timer_hold_lem : (time octet : ℕ) (o : Option Address) → chosen_hold time (timer_of octet) o ≡ congestion_hold time octet o
unfolding chosen_hold timer_hold timer_of congestion_hold
timer_hold_lem time octet None = refl
timer_hold_lem time octet (Some a) = go (eqb (octet / 32) 7) (eqb (octet % 32) 0)
  where
    seconds : ℕ
    seconds = octet % 32 * unit_seconds (octet / 32)

    go : (b c : Bool) → timer_hold time (cond b Timer.Deactivated (cond c Timer.None (Timer.Seconds seconds))) a
        ≡ cond b (record { address = a; end = Never } ∷ []) (cond c [] (record { address = a; end = At (time + seconds) } ∷ []))
    go true c = refl
    go false true = refl
    go false false = refl

-- an event's line beside the one that the call finds
record Step (e : Event) (x y : Line) : Type 0 where
  time : y.time ≡ x.time
  holds : y.holds ≡ x.holds ++ hold_added e x.time x.phase
  children : y.children ≡ children_after e x.children

module _ (x : Line) where
  -- an event that changes only the phase
  by_phase : (e : Event) (p : Phase) → (outcome e x).line ≡ in_phase x p → hold_added e x.time x.phase ≡ [] → children_after e x.children ≡ x.children
      → Step e x (outcome e x).line
  unfolding in_phase
  by_phase e p q adds same = record {
    time = ap (λ (z : Line). z.time) q;
    holds = ap (λ (z : Line). z.holds) q ∙ sym (ap (λ (hs : List Hold). x.holds ++ hs) adds ∙ append-nil x.holds);
    children = ap (λ (z : Line). z.children) q ∙ sym same;
  }

  line_is : {o o' : Outcome} → o ≡ o' → o.line ≡ o'.line
  line_is = ap (λ (o : Outcome). o.line)

  -- one clause for each row of the table
  steps : (e : Event) → Step e x (outcome e x).line
  unfolding outcome hold_added children_after keeps goes in_phase congested with_children
  steps (start g t room) = by_phase (start g t room) _ (line_is (started_goes x x (facts_of g) t (config_of t))) refl refl
  steps (country n networks t room) =
      by_phase (country n networks t room) _ (line_is (answered_goes x x (facts_in x.phase) (Selection.country_reply (eqb n 1) (networks_in networks)) t (config_of t))) refl refl
  steps (address list) = by_phase (address list) _ (line_is (addressed_goes x x (facts_in x.phase) (addresses_in list))) refl refl
  steps begin = by_phase begin _ refl refl refl
  steps init = by_phase init _ refl refl refl
  steps (eap packet) = by_phase (eap packet) _ (line_is (packet_goes x x packet (read_packet packet))) refl refl
  steps (reply parameters nas room) = by_phase (reply parameters nas room) _ (line_is (replied_goes x x parameters nas (owed (turn_in x.phase)))) refl refl
  steps (final good) = by_phase (final good) _ (line_is (finished_goes x x _)) refl refl
  steps (error number) = by_phase (error number) _ refl refl refl
  steps (congestion authenticated timer) = record {
    time = refl;
    holds = ap (λ (hs : List Hold). x.holds ++ hs) (timer_hold_lem x.time timer (chosen x.phase));
    children = refl;
  }
  steps give_up = by_phase give_up _ refl refl refl
  steps (child_made spi session) = record { time = refl; holds = sym (append-nil x.holds); children = refl }
  steps (child_deleted spi) = record { time = refl; holds = sym (append-nil x.holds); children = refl }
  steps ike_delete = record { time = refl; holds = sym (append-nil x.holds); children = refl }

-- the line that the call finds has the call's time and the holds that haven't ended
found_after : (e : Event) (time : ℕ) (x : Line) → After e time x (Some (outcome e (current time x)).line)
unfolding current
found_after e time x =
    let s = steps (current time x) e in
    record { line = (outcome e (current time x)).line; stands = refl; time = s.time; holds = s.holds; children = s.children }

pub timed_after : (tenant line time : ℕ) (e : Event) (l : List ℕ) (x : Line) → Timed tenant line time e l x
    → After e time x (line_in (run (timed tenant line time e) l).table tenant line)
timed_after tenant line time e l x t = subst (After e time x) (sym (timed_run tenant line time e l x t).1) (found_after e time x)
