-- `session::eap_start` meets its contract: Start is due in the phase auth alone.
use mathlib.Core.Path.{refl}
use borrow.Author.Rules.{rules}
use Rattle.phase.specs.Chosen.{chosen}
use Rattle.phase.specs.Stage as Stage
use Rattle.phase.proofs.Stages.{other_stage, same_stage, tags}
use Rattle.record.specs.Changes.{in_phase}
use Rattle.record.specs.Line.{line_of}
use Rattle.rules.specs.Life.{goes, keeps, onward, packet_taken}
use Rattle.rules.specs.Refusals.{is_due}
use Rattle.session.proofs.eap_start.Goals as goal

pub returns-in_default : goal.returns-in_default
unfolding is_due line_of
returns-in_default c = record { not_due = other_stage Stage.auth _ tags (search rules); refused = refl }

pub returns : goal.returns
unfolding is_due line_of packet_taken keeps goes in_phase onward chosen
returns c = record { due = same_stage c.in-Auth.is; line_is = rw c.in-Auth.is c.in_phase.ensures; action_is = refl }
