-- `session::lacks_parameters` meets its contract: only a first turn asks for AN-parameters.
use mathlib.Core.Path.{refl, ◌∙◌}
use lib.ListN.{length}
use borrow.Author.Rules.{rules}
use Rattle.phase.specs.Stage as Stage
use Rattle.phase.proofs.Stages.{other_stage, tags}
use Rattle.rules.specs.Phases.{is_first, turn_in}
use Rattle.rules.specs.Refusals.{lacks_parameters}
use Rattle.session.proofs.Turns.{no_turn, none_short, not_first}
use Rattle.session.proofs.lacks_parameters.Goals as goal

pub returns-in-Eap-default-First : goal.returns-in-Eap-default-First
unfolding lacks_parameters turn_in is_first
returns-in-Eap-default-First c =
    let was = c.in-Eap-default-First in
    rw (was.is, (rw was.is at was.field-1-is)) (c.is_empty.ensures ∙ none_short (length c.args.parameters.now))

pub returns-in_default : goal.returns-in_default
unfolding lacks_parameters turn_in is_first
returns-in_default c = rw (c.in_default.is, not_first c.in_default.field-1 (search rules)) refl

pub returns-in_default-2 : goal.returns-in_default-2
unfolding lacks_parameters is_first
returns-in_default-2 c = rw (no_turn c.args.phase (other_stage Stage.eap _ tags (search rules))) refl
