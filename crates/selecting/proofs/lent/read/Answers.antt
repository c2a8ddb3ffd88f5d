-- `selecting::lent::read` meets its contract: the text is too long, not well formed, of the place's own country, or fits.
use mathlib.Core.Path.{refl, sym, ap, ◌∙◌}
use borrow.Author.Tests.{le-ltb, lt-ltb}
use Rattle.config.specs.Settings.{Settings}
use Rattle.selection.specs.Selection.{home_abroad}
use Rattle.rules.specs.Refusals.{is_home_abroad, is_long}
use Rattle.selecting.proofs.Texts.{fitting, home_mcc, ill_formed, too_long}
use Rattle.selecting.proofs.lent.read.Goals as goal

pub returns-then-text-gt-MOST_TEXT : goal.returns-then-text-gt-MOST_TEXT
unfolding is_long
returns-then-text-gt-MOST_TEXT c = too_long _ _ _ _ (lt-ltb _ _ c.if-text-gt-MOST_TEXT.true)

pub returns-in_default : goal.returns-in_default
unfolding is_long
returns-in_default c = ill_formed _ _ _ _ (le-ltb _ _ c.if-text-gt-MOST_TEXT.false) (sym c.in_default.ensures.result_after)

pub returns-then-is_home_abroad : goal.returns-then-is_home_abroad
unfolding is_long is_home_abroad
returns-then-is_home_abroad c =
    let parsed = c.in-Some.ensures in
    rw c.in-Some-facts.is (home_mcc _ _ _ _ (le-ltb _ _ c.if-text-gt-MOST_TEXT.false) _ (sym parsed.result_after) (ap (λ (s : Settings). home_abroad s c.in-Some-facts.facts.place) (sym c.lent.ensures) ∙ sym c.if-is_home_abroad.ensures))

pub returns-else-is_home_abroad : goal.returns-else-is_home_abroad
unfolding is_long is_home_abroad
returns-else-is_home_abroad c =
    let parsed = c.in-Some.ensures in
    rw c.in-Some-facts.is (fitting _ _ _ _ (le-ltb _ _ c.if-text-gt-MOST_TEXT.false) _ (sym parsed.result_after) (ap (λ (s : Settings). home_abroad s c.in-Some-facts.facts.place) (sym c.lent.ensures) ∙ sym c.if-is_home_abroad.ensures) parsed.within)

pub returns-in_default-facts : goal.returns-in_default-facts
unfolding is_long is_home_abroad
returns-in_default-facts c =
    let parsed = c.in-Some.ensures in
    rw c.in_default-facts.is (fitting _ _ _ _ (le-ltb _ _ c.if-text-gt-MOST_TEXT.false) _ (sym parsed.result_after) refl parsed.within)
