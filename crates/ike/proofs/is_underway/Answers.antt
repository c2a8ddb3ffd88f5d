-- `ike::is_underway` meets its contract: the phase is one of three.
use mathlib.Core.Logic.{⊎_elim}
use mathlib.Core.Path.{refl}
use borrow.Author.Rules.{rules}
use Rattle.phase.specs.Stage.{is_in}
use Rattle.phase.specs.Stage as Stage
use Rattle.phase.proofs.Stages.{other_stage, tags}
use Rattle.rules.specs.Phases.{underway}
use Rattle.ike.proofs.is_underway.Goals as goal

pub returns-in-Auth : goal.returns-in-Auth
unfolding is_in underway
returns-in-Auth c = ⊎_elim (λ e. rw e.1 refl) (⊎_elim (λ e. rw e.2 refl) (λ e. rw e.1 refl)) c.in-Auth.is

pub returns-in_default : goal.returns-in_default
unfolding underway
returns-in_default c = rw (other_stage Stage.auth c.args.phase tags (search rules), other_stage Stage.eap c.args.phase tags (search rules), other_stage Stage.sure c.args.phase tags (search rules)) refl
