-- `selecting::start_choice` meets its contract: each return has passed the tests before it.
use Prim.Native.Nat.{ℕ}
use mathlib.Core.Bool.{Bool, not, ◌||◌}
use mathlib.Core.List.{List}
use mathlib.Core.Path.{◌≡◌, refl, sym, ap, ◌∙◌}
use borrow.Author.Rules.{rules}
use lib.Dec.{leb, ltb}
use borrow.Author.Tests.{le-leb, lt-leb}
use Rattle.std.specs.Prelude.{Some}
use Rattle.address.specs.Address.{most_holds}
use Rattle.config.specs.Settings.{config_of}
use Rattle.phase.specs.Stage as Stage
use Rattle.phase.specs.Stage.{is_in}
use Rattle.phase.proofs.Stages.{other_stage, same_stage, tags}
use Rattle.place.specs.declared.Facts.{Facts}
use Rattle.record.specs.Line.{Line}
use Rattle.refusal.specs.declared.Refusal.{Refusal}
use Rattle.rules.specs.Call.{facts_of, last_time, start, start_numbers_fit}
use Rattle.rules.specs.declared.StartNumbers.{StartNumbers}
use Rattle.rules.specs.Refusals.{has_no_room, is_allowed, is_held_full, is_home_abroad, is_long, is_malformed, is_out_of_range, is_spi_taken}
use Rattle.step.proofs.Steps.{accepted, held_full, untimely}
use Rattle.selecting.proofs.Asked.{start_within}
use Rattle.selecting.proofs.Outcomes.{of_start}
use Rattle.selecting.proofs.Texts.{by_own, by_text, passed_on, passes, refuses}
use Rattle.selecting.proofs.start_choice.Goals as goal

-- the test of the text's home MCC is that of the given facts
outside : (given : StartNumbers) (text : List ℕ) (room : ℕ) (x : Line) (f : Facts) → f ≡ facts_of given
    → is_out_of_range (start given text room) x ≡ not (start_numbers_fit given) || is_long text || is_home_abroad (config_of text) (Some f)
unfolding is_out_of_range
outside given text room x f is = rw is

pub returns-then-time-numbers_fit : goal.returns-then-time-numbers_fit
returns-then-time-numbers_fit c =
    let late = sym (ap (λ (b : Bool). ltb last_time c.args.time || not b) c.numbers_fit.ensures) ∙ c.if-time-numbers_fit.true in
    λ x room here held. refuses (start _ _ room) _ x _ _ Refusal.Range refl (by_own (start _ _ room) x _ _ _ _ (outside _ _ room x _ refl) late)

pub returns-in_err-config : goal.returns-in_err-config
unfolding is_malformed
returns-in_err-config c =
    let passed = sym (ap (λ (b : Bool). ltb last_time c.args.time || not b) c.numbers_fit.ensures) ∙ c.if-time-numbers_fit.false in
    λ x room here held. refuses (start _ _ room) _ x _ _ c.in_err-config.field-0.0 (passed_on c.from_residual.result c.in_err-config.field-0.0 c.from_residual.ensures.1)
    (by_text (start _ _ room) x _ _ _ _ (outside _ _ room x _ c.facts_of-facts.ensures) refl passed _ _ _ c.in_err-config.ensures)

pub returns-in_default : goal.returns-in_default
unfolding is_malformed is_allowed
returns-in_default c =
    let passed = sym (ap (λ (b : Bool). ltb last_time c.args.time || not b) c.numbers_fit.ensures) ∙ c.if-time-numbers_fit.false in
    let busy = other_stage Stage.idle c.args.phase tags (search rules) in
    λ x room here held.
    let p = passes (start _ _ room) x _ _ _ _ (outside _ _ room x _ c.facts_of-facts.ensures) refl passed _ _ _ c.in_ok-config.ensures in
    refuses (start _ _ room) _ x _ _ Refusal.Phase refl (untimely _ _ x p.timely p.fit p.formed (ap (is_in Stage.idle) here ∙ busy))

pub returns-then-in_force-ge-HOLDS : goal.returns-then-in_force-ge-HOLDS
unfolding is_malformed is_allowed is_spi_taken has_no_room is_held_full
returns-then-in_force-ge-HOLDS c =
    let passed = sym (ap (λ (b : Bool). ltb last_time c.args.time || not b) c.numbers_fit.ensures) ∙ c.if-time-numbers_fit.false in
    λ x room here held.
    let p = passes (start _ _ room) x _ _ _ _ (outside _ _ room x _ c.facts_of-facts.ensures) refl passed _ _ _ c.in_ok-config.ensures in
    refuses (start _ _ room) _ x _ _ Refusal.Holds refl
    (held_full _ _ x p.timely p.fit p.formed (same_stage (here ∙ c.in-Idle.is)) refl refl (ap (leb most_holds) held ∙ le-leb _ _ c.if-in_force-ge-HOLDS.true))

pub returns : goal.returns
unfolding is_malformed is_allowed is_spi_taken has_no_room is_held_full
returns c =
    let passed = sym (ap (λ (b : Bool). ltb last_time c.args.time || not b) c.numbers_fit.ensures) ∙ c.if-time-numbers_fit.false in
    let reads = c.in_ok-config.ensures in
    λ x room here held.
    let p = passes (start _ _ room) x _ _ _ _ (outside _ _ room x _ c.facts_of-facts.ensures) refl passed _ _ _ reads in
    record {
      refusal_is = accepted _ _ x p.timely p.fit p.formed (same_stage (here ∙ c.in-Idle.is)) refl refl (ap (leb most_holds) held ∙ lt-leb _ _ c.if-in_force-ge-HOLDS.false);
      outcome_is = of_start _ _ room x _ _ _ (reads.settings_are ∙ ap Some (sym c.lent.ensures)) c.facts_of-facts.ensures c.start-choice.ensures;
      within = start_within _ _ _ _ reads.within _ _ _ c.lent.ensures c.start-choice.ensures;
    }
