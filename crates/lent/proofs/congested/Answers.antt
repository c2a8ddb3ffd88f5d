-- `lent::congested` meets its contract: what is left of the record is the line that the step leaves.
use Rattle.rules.specs.Call.{congestion}
use Rattle.lent.specs.Left.{effect_left}
use Rattle.lent.proofs.Leaving.{refused_alike}
use Rattle.lent.proofs.congested.Goals as goal

pub returns-in_err-action : goal.returns-in_err-action
returns-in_err-action c = refused_alike (congestion _ _) _ _ c.from_residual.result _ _ c.from_residual.ensures c.in_err-action.ensures

pub returns : goal.returns
unfolding effect_left
returns c = c.in_ok-action.ensures
