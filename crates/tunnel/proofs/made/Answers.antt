-- `tunnel::made` meets its contract: only a live line whose children do not have the SPI and leave room is answered with 0.
use mathlib.Core.Path.{refl, sym, ap, ◌∙◌}
use lib.Dec.{leb}
use borrow.Author.Rules.{rules}
use borrow.Author.Tests.{le-leb, lt-leb}
use Rattle.octets.specs.Part.{padded, zeros}
use Rattle.children.specs.Children.{most_children}
use Rattle.phase.specs.Stage as Stage
use Rattle.phase.proofs.Stages.{other_stage, same_stage, tags}
use Rattle.record.specs.Changes.{with_children}
use Rattle.record.specs.Line.{line_of}
use Rattle.rules.specs.Answer.{event_room}
use Rattle.rules.specs.Life.{outcome}
use Rattle.rules.specs.Refusals.{has_no_room, is_allowed, is_held_full, is_malformed, is_out_of_range, is_spi_taken}
use Rattle.step.proofs.Shown.{done, late, no_room, spi_taken, unfit, untimely}
use Rattle.tunnel.proofs.Making.{found_with, making, not_made}
use Rattle.tunnel.proofs.made.Goals as goal

pub returns-in_err-found-clause-effect_is : goal.returns-in_err-found-clause-effect_is
unfolding event_room zeros
returns-in_err-found-clause-effect_is c =
    λ cs spi count. not_made _ _ c.args.child cs c.from_residual.ensures.0 ∙ late (making c.args.child) _ _ c.from_residual.ensures c.in_err-found.ensures

pub returns-then-not-is_child-clause-effect_is : goal.returns-then-not-is_child-clause-effect_is
unfolding event_room is_out_of_range zeros
returns-then-not-is_child-clause-effect_is c =
    λ cs spi count. unfit (making c.args.child) (found_with c.in_ok-found.ensures cs) (search rules)

pub returns-in_default-clause-effect_is : goal.returns-in_default-clause-effect_is
unfolding event_room is_allowed is_malformed is_out_of_range line_of with_children zeros
returns-in_default-clause-effect_is c =
    λ cs spi count. untimely (making c.args.child) (found_with c.in_ok-found.ensures cs) (search rules) refl (other_stage Stage.live _ tags (search rules))

pub returns-then-taken-clause-effect_is : goal.returns-then-taken-clause-effect_is
unfolding event_room is_allowed is_malformed is_out_of_range is_spi_taken line_of with_children zeros
returns-then-taken-clause-effect_is c =
    λ cs spi count. spi_taken (making c.args.child) (found_with c.in_ok-found.ensures cs) (search rules) refl (same_stage c.in-Live.is) (sym spi ∙ c.if-taken.true)

pub returns-then-n-ge-CHILDREN-clause-effect_is : goal.returns-then-n-ge-CHILDREN-clause-effect_is
unfolding event_room has_no_room is_allowed is_malformed is_out_of_range is_spi_taken line_of with_children zeros
returns-then-n-ge-CHILDREN-clause-effect_is c =
    λ cs spi count. no_room (making c.args.child) (found_with c.in_ok-found.ensures cs) (search rules) refl (same_stage c.in-Live.is) (sym spi ∙ c.if-taken.false)
    (ap (leb most_children) (sym count) ∙ le-leb _ _ c.if-n-ge-CHILDREN.true)

pub returns-clause-effect_is : goal.returns-clause-effect_is
unfolding event_room has_no_room is_allowed is_held_full is_malformed is_out_of_range is_spi_taken line_of outcome padded with_children zeros
returns-clause-effect_is c =
    λ cs spi count. done (making c.args.child) (found_with c.in_ok-found.ensures cs) (search rules) refl (same_stage c.in-Live.is) (sym spi ∙ c.if-taken.false)
    (ap (leb most_children) (sym count) ∙ lt-leb _ _ c.if-n-ge-CHILDREN.false) refl refl refl refl
