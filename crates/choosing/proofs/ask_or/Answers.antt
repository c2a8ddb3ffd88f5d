-- `choosing::ask_or` meets its contract: a network is asked for, or the other choice stays.
use mathlib.Core.Path.{sym}
use Rattle.selection.specs.Selection.{ask_or}
use Rattle.choosing.proofs.ask_or.Goals as goal

pub returns-in-Some : goal.returns-in-Some
unfolding ask_or
returns-in-Some c = sym (rw c.in-Some.is)

pub returns-in-None : goal.returns-in-None
unfolding ask_or
returns-in-None c = sym (rw c.in-None.is)
