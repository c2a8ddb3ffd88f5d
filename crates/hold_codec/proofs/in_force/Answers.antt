-- `hold_codec::in_force` meets its contract: those that end after the time pass.
use borrow.Author.Rules.{rules}
use Rattle.holds.specs.Holds.{ends_after}
use Rattle.hold_codec.proofs.in_force.Goals as goal

pub returns : goal.returns
unfolding ends_after
returns c = c.only.ensures (ends_after c.args.time) (λ x b passes. search rules)
