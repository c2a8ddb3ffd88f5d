-- `step::laws` meets its contract: the law is proved in proofs/Running.
use Rattle.step.proofs.Running.{effect_run}
use Rattle.step.proofs.laws.Goals as goal

pub returns : goal.returns
returns c = record { effect_run = effect_run }
