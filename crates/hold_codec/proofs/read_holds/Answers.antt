-- `hold_codec::read_holds` meets its contract: each hold is read at its place.
use borrow.Author.Rules.{rules}
use Rattle.holds.specs.Holds.{hold_in, holds_from}
use Rattle.hold_codec.proofs.read_holds.Goals as goal

pub returns : goal.returns
unfolding hold_in holds_from
returns c = c.from_fn.ensures (hold_in c.args.b.now c.args.at) (λ i x read. search rules)
