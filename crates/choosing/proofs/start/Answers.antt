-- `choosing::start` meets its contract: the place picks the case.
use Rattle.std.specs.Prelude.{Option}
use mathlib.Core.Path.{sym, ap, ◌∙◌}
use Rattle.config.specs.Settings.{settings_of}
use Rattle.network.specs.declared.Plmn.{Plmn}
use Rattle.selection.specs.Selection.{abroad, registered, start, start_at}
use Rattle.choosing.proofs.start.Goals as goal

pub returns-in-Unknown : goal.returns-in-Unknown
unfolding start start_at
returns-in-Unknown c = sym (rw c.in-Unknown.is)

pub returns-in-Home : goal.returns-in-Home
unfolding start start_at
returns-in-Home c = rw c.in-Home.is c.at_home.ensures

pub returns-in-Abroad : goal.returns-in-Abroad
unfolding start start_at registered
returns-in-Abroad c =
    rw c.in-Abroad.is (c.abroad.ensures ∙ ap (λ (o : Option Plmn). abroad (settings_of c.args.configuration) o c.in-Abroad.mcc) c.counting.ensures)
