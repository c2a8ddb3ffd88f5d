-- A child made, told by what stands of the children and not by the children themselves.
use Rattle.std.specs.Prelude.{List, [], ◌∷◌, ◌++◌, Result, Ok, Err}
use Rattle.children.specs.declared.Child.{Child}
use Rattle.record.specs.Changes.{with_children}
use Rattle.record.specs.Line.{Line, line_of}
use Rattle.refusal.specs.Numbers.{number_of}
use Rattle.refusal.specs.declared.Refusal.{Refusal}
use Rattle.rules.specs.declared.Action.{Action}
use Rattle.step.specs.Step.{Effect}
use Rattle.step.specs.declared.Done.{Done}

-- what the code's answer comes to on a line with children: the new one stands behind them unless it is refused
abbrev pub made_on : Line → Result Done Refusal → Child → List Child → Effect
made_on x (Ok done) c cs = record { refusal = 0; line = with_children (line_of done.line) (cs ++ c ∷ []); action = done.action; part = []; buffer = [] }
made_on x (Err r) c cs = record { refusal = number_of r; line = with_children x cs; action = Action.Nothing; part = []; buffer = [] }
