-- `child_codec::read_children` meets its contract: each child is read at its place.
use borrow.Author.Rules.{rules}
use Rattle.children.specs.Children.{child_in, children_from}
use Rattle.child_codec.proofs.read_children.Goals as goal

pub returns : goal.returns
unfolding child_in children_from
returns c = c.from_fn.ensures (child_in c.args.b.now c.args.at) (λ i x read. search rules)
