-- `tunnel::is_child` meets its contract: a number is at most the highest of its octets where it is below the next one.
use mathlib.Core.Path.{sym}
use lib.Dec.{leb-suc-suc}
use borrow.Author.Rules.{rules}
use Rattle.children.specs.Laws.{child_storable}
use Rattle.rules.specs.Refusals.{is_child}
use Rattle.tunnel.proofs.is_child.Goals as goal

pub returns-then-child-le-MOST_SPI : goal.returns-then-child-le-MOST_SPI
unfolding is_child child_storable
returns-then-child-le-MOST_SPI c = rw (sym c.child_fits.ensures, c.if-child-le-MOST_SPI.true.0, leb-suc-suc c.args.child.session 255) (search rules)

pub returns-else-child-le-MOST_SPI : goal.returns-else-child-le-MOST_SPI
unfolding is_child child_storable
returns-else-child-le-MOST_SPI c = search rules
