-- More holds on a line that has room for them, and a line that congestion releases.
use Rattle.std.specs.Prelude.{Option, Some, is_some}
use Prim.Native.Nat.{ℕ, ◌<◌}
use mathlib.Core.Bool.{true, false, ◌||◌}
use mathlib.Core.List.{◌++◌}
use mathlib.Core.Path.{◌≡◌, refl, sym, ap, ◌∙◌}
use native.Mathlib.Omega.{arith}
use lib.Dec.{leb}
use lib.ListN.{length}
use borrow.Author.Tests.{leb-true}
use Rattle.octets.proofs.Search.{and_left, and_right, or_other}
use Rattle.octets.proofs.Sublists.{only_length}
use Rattle.address.specs.Address.{most_holds}
use Rattle.address.specs.declared.Address.{Address}
use Rattle.address.specs.declared.End.{End}
use Rattle.holds.specs.Holds.{ends_after}
use Rattle.phase.specs.Chosen.{chosen}
use Rattle.phase.specs.Stage.{is_in}
use Rattle.phase.specs.Stage as Stage
use Rattle.phase.specs.declared.Phase.{Phase}
use Rattle.phase.specs.declared.Phase.TheVariants.{Idle, Country, Name, Chosen, Init, Auth, Eap, Sure, Live}
use Rattle.record.specs.Changes.{current, hold_until, in_phase, with_holds}
use Rattle.record.specs.Line.{Line}
use Rattle.record.specs.Sound.{holds_sound, most_busy_holds}
use Rattle.rules.specs.Life.{chosen_hold, congested, timer_hold}
use Rattle.rules.specs.Phases.{underway}
use Rattle.step.specs.Step.{Timely}
use Rattle.timer.specs.declared.Timer.{Timer}

-- a line as a call finds it
module _ {f : Line} {time : ℕ} {x : Line} (found : Timely f time x) where
  pub time_stored : time ≡ f.time
  unfolding current
  time_stored = sym (ap (λ (y : Line). y.time) found.line_is)

  -- there is room for one hold more unless it is idle
  pub has_room : holds_sound x.time x.phase x.holds ≡ true → is_in Stage.idle f.phase ≡ false → length f.holds < most_holds
  unfolding holds_sound current
  has_room sound busy =
      let room : is_in Stage.idle x.phase || leb (length x.holds) most_busy_holds ≡ true = search (and_left, and_right) in
      let not_idle = ap (λ (y : Line). is_in Stage.idle y.phase) (sym found.line_is) ∙ busy in
      let few = leb-true (length x.holds) most_busy_holds (or_other (is_in Stage.idle x.phase) (leb (length x.holds) most_busy_holds) room not_idle) in
      rw found.line_is (omega (arith, only_length (ends_after time) x.holds))

-- a line that authenticates itself has a chosen address
pub underway_chosen : (p : Phase) → underway p ≡ true → is_some (chosen p) ≡ true
unfolding underway is_in chosen
underway_chosen Idle h = h
underway_chosen (Country f) h = h
underway_chosen (Name f) h = h
underway_chosen (Chosen a) h = refl
underway_chosen (Init a) h = refl
underway_chosen (Auth a) h = refl
underway_chosen (Eap a t) h = refl
underway_chosen (Sure a) h = refl
underway_chosen (Live a) h = refl

-- a line with the chosen address held goes idle
pub released : (x y : Line) (t : Timer) (a : Address) (end : Option End) → chosen x.phase ≡ Some a → y ≡ with_holds x (x.holds ++ hold_until a end) → hold_until a end ≡ timer_hold x.time t a
    → in_phase y Idle ≡ congested x t
unfolding congested chosen_hold in_phase with_holds
released x y t a end is held set = rw (is, held, set)
