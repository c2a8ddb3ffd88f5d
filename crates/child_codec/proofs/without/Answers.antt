-- `child_codec::without` meets its contract: those of another SPI pass.
use borrow.Author.Rules.{rules}
use Rattle.children.specs.Children.{is_other, is_spi}
use Rattle.child_codec.proofs.without.Goals as goal

pub returns : goal.returns
unfolding is_other is_spi
returns c = c.only.ensures (is_other c.args.spi) (λ x b passes. search rules)
