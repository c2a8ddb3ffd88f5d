-- An event is allowed wherever a row of 'Life of a line' begins.
use Rattle.std.specs.Prelude.{Bool, is_some}
use Prim.Native.Nat.{ℕ}
use mathlib.Core.Bool.{true, not, ◌&&◌}
use mathlib.Core.Path.{◌≡◌, refl, ap, ap₂, ◌∙◌}
use borrow.Author.Tests.{eq-eqb}
use Rattle.children.specs.Children.{has_spi}
use Rattle.phase.specs.Stage.{is_in}
use Rattle.phase.specs.Stage as Stage
use Rattle.phase.specs.declared.Phase.{Phase}
use Rattle.record.specs.Line.{Line}
use Rattle.rules.specs.After.{Transition, Underway, start_asks, start_decides, country_decides, address_answered_lem, begun, init_answered, eap_started, eap_asked, first_replied, later_replied, eap_succeeded, final_good, final_bad, error_notified, congestion_told, given_up, child_added, child_taken, ike_deleted, in_auth, in_eap_lem, in_sure}
use Rattle.rules.specs.Call.{Event, child_deleted}
use Rattle.rules.specs.declared.Action.{Action}
use Rattle.rules.specs.Phases.{last_reply, owed, turn_in, underway}
use Rattle.rules.specs.Refusals.{is_allowed, is_due, is_identifier}

under : {p : Phase} {ended : Bool} → Underway p ended → underway p ≡ true
unfolding underway is_in
under in_auth = refl
under in_eap_lem = refl
under in_sure = refl

allowed_in : {e : Event} {p q : Phase} {action : Action} → Transition e p q action → (x : Line) → x.phase ≡ p
    → ((spi : ℕ) → e ≡ child_deleted spi → has_spi spi x.children ≡ true) → is_allowed e x ≡ true
unfolding is_allowed is_in is_due last_reply owed turn_in is_identifier
allowed_in start_asks x at has = ap (is_in Stage.idle) at
allowed_in (start_decides d) x at has = ap (is_in Stage.idle) at
allowed_in (country_decides d) x at has = ap (is_in Stage.country) at
allowed_in (address_answered_lem d) x at has = ap (is_in Stage.name) at
allowed_in begun x at has = ap (is_in Stage.chosen) at
allowed_in init_answered x at has = ap (is_in Stage.init) at
allowed_in (eap_started r) x at has = ap₂ is_due r at
allowed_in (eap_asked r) x at has = ap₂ is_due r at
allowed_in first_replied x at has = ap (λ (p : Phase). is_some (owed (turn_in p))) at
allowed_in later_replied x at has = ap (λ (p : Phase). is_some (owed (turn_in p))) at
allowed_in (eap_succeeded {i = i} r) x at has = ap₂ is_due r at ∙ eq-eqb i i refl
allowed_in final_good x at has = ap (is_in Stage.sure) at
allowed_in final_bad x at has = ap (is_in Stage.sure) at
allowed_in (error_notified u) x at has = ap underway at ∙ under u
allowed_in (congestion_told u) x at has = ap underway at ∙ under u
allowed_in (given_up idle live) x at has = ap (λ (p : Phase). not (is_in Stage.idle p) && not (is_in Stage.live p)) at ∙ rw (idle, live)
allowed_in child_added x at has = ap (is_in Stage.live) at
allowed_in (child_taken {spi}) x at has = ap₂ ◌&&◌ (ap (is_in Stage.live) at) (has spi refl)
allowed_in ike_deleted x at has = ap (is_in Stage.live) at

pub row_allowed : (e : Event) (x : Line) (q : Phase) (action : Action) → Transition e x.phase q action
    → ((spi : ℕ) → e ≡ child_deleted spi → has_spi spi x.children ≡ true) → is_allowed e x ≡ true
row_allowed e x q action row has = allowed_in row x refl has
