-- `ike::ended` meets its contract: an EAP session ends where the phase is eap.
use Rattle.phase.proofs.Stages.{not_eap, same_stage}
use Rattle.rules.specs.Life.{ended}
use Rattle.ike.proofs.ended.Goals as goal

pub returns-in-Eap : goal.returns-in-Eap
unfolding ended
returns-in-Eap c = rw (same_stage c.in-Eap.is)

pub returns-in_default : goal.returns-in_default
unfolding ended
returns-in_default c = rw (not_eap c.args.phase c.in_default.not-Eap)
