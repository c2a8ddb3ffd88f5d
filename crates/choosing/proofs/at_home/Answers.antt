-- `choosing::at_home` meets its contract: the `node` record picks the case.
use mathlib.Core.Path.{◌≡◌, sym}
use borrow.Author.Rules.{rules}
use Rattle.config.specs.Settings.{settings_of}
use Rattle.config.specs.declared.Node.TheVariants as Node
use Rattle.selection.specs.Selection.{at_home, by_node}
use Rattle.choosing.proofs.at_home.Goals as goal

pub returns-in-Some-Address : goal.returns-in-Some-Address
unfolding at_home by_node settings_of
returns-in-Some-Address c =
    let node : c.in-Some-Address.field-0 ≡ Node.Address c.in-Some-Address.a = search rules in
    sym (rw (c.in-Some-Address.is, node))

pub returns-in-Some-Name : goal.returns-in-Some-Name
unfolding at_home by_node settings_of
returns-in-Some-Name c =
    let node : c.in-Some-Name.field-0 ≡ Node.Name c.in-Some-Name.at c.in-Some-Name.length = search rules in
    sym (rw (c.in-Some-Name.is, node))

pub returns-in-None : goal.returns-in-None
unfolding at_home by_node settings_of
returns-in-None c = sym (rw c.in-None.is)
