-- `attempt::answered` meets its contract: each return has passed the tests before it, whatever the holds that the array tells of.
use mathlib.Core.Bool.{not}
use mathlib.Core.Path.{refl, sym, ap, ◌∙◌}
use Rattle.std.proofs.lemmas.Result.{err_from_is_err_and}
use borrow.Author.Rules.{rules}
use Rattle.phase.specs.Stage as Stage
use Rattle.phase.specs.Stage.{is_in}
use Rattle.phase.proofs.Stages.{other_stage, same_stage, tags}
use Rattle.record.specs.Changes.{current, in_phase, with_holds}
use Rattle.record.specs.Line.{Line, line_of}
use Rattle.refusal.specs.declared.Refusal.{Refusal}
use Rattle.rules.specs.Refusals.{has_no_room, is_allowed, is_held_full, is_malformed, is_out_of_range, is_spi_taken}
use Rattle.step.proofs.Steps.{accepted, late, unfit, untimely}
use Rattle.attempt.proofs.Held.{gone_held, left_held, short}
use Rattle.attempt.proofs.Outcomes.{of_addresses}
use Rattle.attempt.proofs.answered.Goals as goal

pub returns-in_err-found : goal.returns-in_err-found
returns-in_err-found c =
    let p = err_from_is_err_and c.from_residual.result c.from_residual.ensures.1 in
    let found = c.in_err-found.ensures in
    rw (p.1, p.2, found.refused) (record { hs_value = λ hs told. left_held _ _ _ hs Refusal.Range (late _ _ _ found.is_late); phase_alone = tt })

pub returns-then-not-addresses_fit : goal.returns-then-not-addresses_fit
unfolding is_out_of_range
returns-then-not-addresses_fit c =
    let found = c.in_ok-found.ensures in
    let is-unfit = ap not (sym c.addresses_fit.ensures ∙ c.if-not-addresses_fit.true) in
    record { hs_value = λ hs told. left_held _ _ _ hs Refusal.Range (unfit _ _ _ found.in_range is-unfit); phase_alone = tt }

pub returns-in_default : goal.returns-in_default
unfolding is_out_of_range is_malformed is_allowed line_of current
returns-in_default c =
    let found = c.in_ok-found.ensures in
    let fit = ap not (sym c.addresses_fit.ensures ∙ c.if-not-addresses_fit.false) in
    let waits = sym (ap (λ (x : Line). is_in Stage.name x.phase) found.line_is) ∙ other_stage Stage.name c.in_ok-found.found.phase tags (search rules) in
    record {
      hs_value = λ hs told. left_held _ _ _ hs Refusal.Phase (untimely _ _ _ found.in_range fit refl waits);
      phase_alone = tt;
    }

pub choose-requires : goal.choose-requires
choose-requires c =
    let fit = c.addresses_fit in
    short _ (sym fit.ensures ∙ c.if-not-addresses_fit.false)

pub returns : goal.returns
unfolding is_out_of_range is_malformed is_allowed is_spi_taken has_no_room is_held_full current in_phase with_holds line_of
returns c =
    let l = c.args.addresses.now in
    let found = c.in_ok-found.ensures in
    let fit = ap not (sym c.addresses_fit.ensures ∙ c.if-not-addresses_fit.false) in
    let few = short l (sym c.addresses_fit.ensures ∙ c.if-not-addresses_fit.false) in
    let waits = sym (ap (λ (x : Line). x.phase) found.line_is) ∙ c.in-Name.is in
    let line = c.in_phase.ensures ∙ ap (λ (x : Line). in_phase x c.from-moved.result.phase) found.line_is in
    record {
      hs_value = λ hs told. gone_held l _ _ hs (accepted _ _ _ found.in_range fit refl (same_stage waits) refl refl refl)
          (record { line = c.in_phase.result; action = c.from-moved.result.action }) _ _ (of_addresses l _ _ _ _ waits (c.choose.ensures _ (told few)) c.from-moved.ensures) line refl;
      phase_alone = line ∙ ap (in_phase (current c.args.time (line_of c.args.line))) (sym (ap (λ (x : Line). x.phase) line));
    }
