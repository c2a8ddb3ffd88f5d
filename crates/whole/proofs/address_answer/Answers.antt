-- `whole::address_answer` meets its contract: the answer is the one on the line with its own holds.
use mathlib.Core.List.{List}
use mathlib.Core.Path.{◌∙◌, ap, subst}
use Rattle.address.specs.Address.{held_addresses}
use Rattle.address.specs.declared.Hold.{Hold}
use Rattle.lists.specs.Held.{HeldAre}
use Rattle.record.specs.Changes.{current}
use Rattle.record.specs.Line.{Line, line_of}
use Rattle.rules.specs.Answer.{event_room}
use Rattle.rules.specs.Call.{address}
use Rattle.octets.specs.Part.{zeros}
use Rattle.step.proofs.Shown.{late}
use Rattle.attempt.proofs.Held.{own_holds}
use Rattle.whole.proofs.address_answer.Goals as goal

pub returns-in_err-found : goal.returns-in_err-found
unfolding event_room zeros
returns-in_err-found c = late (address _) _ _ c.from_residual.ensures c.in_err-found.ensures

pub returns : goal.returns
unfolding line_of current
returns c =
    let found = c.in_ok-found.ensures in
    let are = c.held_among-held in
    let in_force_lem = c.as_slice.ensures ∙ ap (λ (x : Line). x.holds) found.line_is in
    own_holds _ _ _ _ c.answered.ensures.phase_alone
    (c.answered.ensures.hs_value _ (λ few. subst (λ (hs : List Hold). HeldAre are.result c.args.addresses.now (held_addresses hs)) in_force_lem (are.ensures few)))
