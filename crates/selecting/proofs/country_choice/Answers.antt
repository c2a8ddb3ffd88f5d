-- `selecting::country_choice` meets its contract: each return has passed the tests before it.
use Prim.Native.Nat.{ℕ}
use mathlib.Core.Bool.{Bool, ◌||◌}
use mathlib.Core.List.{List}
use mathlib.Core.Path.{◌≡◌, refl, sym, ap, ◌∙◌}
use lib.Dec.{ltb}
use Rattle.std.specs.Prelude.{Option, Some}
use Rattle.config.specs.Settings.{config_of}
use Rattle.phase.specs.Awaited.{awaited_in}
use Rattle.phase.proofs.Stages.{same_stage}
use Rattle.phase.proofs.Waits.{elsewhere, in_country}
use Rattle.place.specs.declared.Facts.{Facts}
use Rattle.record.specs.Line.{Line}
use Rattle.refusal.specs.declared.Refusal.{Refusal}
use Rattle.rules.specs.Call.{country, last_time}
use Rattle.rules.specs.Refusals.{bad_networks, has_no_room, is_allowed, is_held_full, is_home_abroad, is_long, is_malformed, is_out_of_range, is_spi_taken, waits_home_abroad}
use Rattle.step.proofs.Steps.{accepted, untimely}
use Rattle.selecting.proofs.Asked.{country_within}
use Rattle.selecting.proofs.Outcomes.{of_country}
use Rattle.selecting.proofs.Texts.{by_own, by_text, passed_on, passes, refuses, where_awaited}
use Rattle.selecting.proofs.country_choice.Goals as goal

-- the test of the text's home MCC is that of the awaited facts
outside : (awaited : Option Facts) (replied : ℕ) (networks text : List ℕ) (room : ℕ) (x : Line) → awaited ≡ awaited_in x.phase
    → is_out_of_range (country replied networks text room) x ≡ bad_networks replied networks || is_long text || is_home_abroad (config_of text) awaited
unfolding is_out_of_range waits_home_abroad
outside awaited replied networks text room x here =
    ap (λ (b : Bool). bad_networks replied networks || is_long text || b) (where_awaited x.phase (config_of text) ∙ sym (ap (is_home_abroad (config_of text)) here))

pub returns-then-time-are_bad : goal.returns-then-time-are_bad
returns-then-time-are_bad c =
    let late = sym (ap (λ (b : Bool). ltb last_time c.args.time || b) c.are_bad.ensures) ∙ c.if-time-are_bad.true in
    λ x room here. refuses (country _ _ _ room) _ x _ _ Refusal.Range refl (by_own (country _ _ _ room) x _ _ _ _ (outside _ _ _ _ room x here) late)

pub returns-in_err-config : goal.returns-in_err-config
unfolding is_malformed
returns-in_err-config c =
    let passed = sym (ap (λ (b : Bool). ltb last_time c.args.time || b) c.are_bad.ensures) ∙ c.if-time-are_bad.false in
    λ x room here. refuses (country _ _ _ room) _ x _ _ c.in_err-config.field-0.0 (passed_on c.from_residual.result c.in_err-config.field-0.0 c.from_residual.ensures.1)
    (by_text (country _ _ _ room) x _ _ _ _ (outside _ _ _ _ room x here) refl passed _ _ _ c.in_err-config.ensures)

pub returns-in_default : goal.returns-in_default
unfolding is_malformed is_allowed
returns-in_default c =
    let passed = sym (ap (λ (b : Bool). ltb last_time c.args.time || b) c.are_bad.ensures) ∙ c.if-time-are_bad.false in
    λ x room here.
    let p = passes (country _ _ _ room) x _ _ _ _ (outside _ _ _ _ room x here) refl passed _ _ _ c.in_ok-config.ensures in
    refuses (country _ _ _ room) _ x _ _ Refusal.Phase refl (untimely _ _ x p.timely p.fit p.formed (elsewhere x.phase (sym here ∙ c.in_default.is)))

pub returns : goal.returns
unfolding is_malformed is_allowed is_spi_taken has_no_room is_held_full
returns c =
    let passed = sym (ap (λ (b : Bool). ltb last_time c.args.time || b) c.are_bad.ensures) ∙ c.if-time-are_bad.false in
    let reads = c.in_ok-config.ensures in
    λ x room here.
    let p = passes (country _ _ _ room) x _ _ _ _ (outside _ _ _ _ room x here) refl passed _ _ _ reads in
    let waits = in_country x.phase _ (sym here ∙ c.in-Some.is) in
    record {
      refusal_is = accepted _ _ x p.timely p.fit p.formed (same_stage waits) refl refl refl;
      outcome_is = of_country _ _ _ room x _ _ _ waits (reads.settings_are ∙ ap Some (sym c.lent-configuration.ensures)) c.country-choice.ensures;
      within = country_within _ _ _ _ reads.within _ _ _ _ c.lent-configuration.ensures c.country-choice.ensures;
    }
