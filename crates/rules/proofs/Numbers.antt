-- How many numbers an answer has.
use Prim.Native.Nat.{ℕ}
use mathlib.Core.List.{List}
use mathlib.Core.Path.{◌≡◌, refl, sym, ap, ◌∙◌}
use lib.ListN.{length}
use Rattle.octets.proofs.Parts.{length_zeros}
use Rattle.rules.specs.View.{View}
use Rattle.octets.proofs.Search.{either}
use Rattle.rules.specs.Answer.{numbers_of, twelve}
use Rattle.rules.specs.declared.Action.{Action}
use Rattle.rules.specs.Call.{Call, opening, closing, listing, timed}
use Rattle.rules.specs.Claims.{count_of}
use Rattle.rules.specs.Run.{Result, answer_of, bare, run, step, step_of, timed_step}
use Rattle.rules.proofs.Refused.{given_is, refusal_leaves}
use Rattle.rules.proofs.Runs.{accepted, number}

action_count : (a : Action) → length (numbers_of a) ≡ 12
unfolding numbers_of twelve
action_count Action.Nothing = refl
action_count (Action.Stopped n k) = refl
action_count (Action.AskCountry n) = refl
action_count (Action.AskText at n) = refl
action_count (Action.AskBuilt n) = refl
action_count (Action.Chose a k) = refl
action_count Action.SendInit = refl
action_count Action.SendAuthRequest = refl
action_count Action.AskNas = refl
action_count (Action.HandUp at n) = refl
action_count (Action.SendResponse n) = refl
action_count Action.SendAuth = refl
action_count Action.Live = refl
action_count (Action.Released ended) = refl
action_count (Action.ErrorUp ended n) = refl
action_count (Action.Listed n) = refl

accepted_count : (c : Call) (v : View) → length (step c v).answer.numbers ≡ count_of c
unfolding step bare timed_step answer_of count_of
accepted_count (opening tenant line) v = refl
accepted_count (closing tenant line) v = refl
accepted_count (listing tenant room) v = action_count (Action.Listed _)
accepted_count (timed tenant line time e) v = action_count _

pub answer_count : (c : Call) (l : List ℕ) → length (run c l).answer.numbers ≡ count_of c
unfolding step_of
answer_count c l =
    either (number c l) 0 (λ e. ap (λ (r : Result). length r.answer.numbers) (accepted c l e) ∙ accepted_count c _)
    (λ h. ap length (refusal_leaves c l (λ e. h (sym (given_is c l) ∙ e))).numbers ∙ length_zeros (count_of c))
