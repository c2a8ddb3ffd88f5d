-- `choosing::abroad` meets its contract: a registered PLMN may be asked for at once.
use mathlib.Core.Path.{sym, ◌∙◌}
use Rattle.selection.specs.Selection.{abroad}
use Rattle.choosing.proofs.abroad.Goals as goal

pub returns-in-Some : goal.returns-in-Some
unfolding abroad
returns-in-Some c = sym (rw (c.in-Some.is, sym c.is_direct.ensures ∙ c.if-is_direct.true))

pub returns-in_default : goal.returns-in_default
unfolding abroad
returns-in_default c = sym (rw (c.in-Some.is, sym c.is_direct.ensures ∙ c.if-is_direct.false))

pub returns-in_default-2 : goal.returns-in_default-2
unfolding abroad
returns-in_default-2 c = sym (rw c.in_default.is)
