-- `ike::congestion::hold_end` meets its contract: each timer sets its end, which fits 64 bits.
use mathlib.Core.Path.{sym, ap, ◌∙◌}
use native.Mathlib.Omega.{arith}
use Rattle.rules.specs.Life.{timer_hold}
use Rattle.timer.specs.declared.Timer.{Timer}
use Rattle.timer.proofs.Lengths.{seconds_fit}
use Rattle.ike.proofs.congestion.hold_end.Goals as goal

pub overflow_add-result : goal.overflow_add-result
overflow_add-result c =
    let long = seconds_fit _ _ (omega arith) (sym c.read.ensures ∙ c.in-Seconds.is) in
    omega arith

pub returns-in-None : goal.returns-in-None
unfolding timer_hold
returns-in-None c = λ a. ap (λ (t : Timer). timer_hold c.args.time t a) (sym c.in-None.is ∙ c.read.ensures)

pub returns-in-Seconds : goal.returns-in-Seconds
unfolding timer_hold
returns-in-Seconds c = λ a. ap (λ (t : Timer). timer_hold c.args.time t a) (sym c.in-Seconds.is ∙ c.read.ensures)

pub returns-in-Deactivated : goal.returns-in-Deactivated
unfolding timer_hold
returns-in-Deactivated c = λ a. ap (λ (t : Timer). timer_hold c.args.time t a) (sym c.in-Deactivated.is ∙ c.read.ensures)
