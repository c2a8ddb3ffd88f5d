-- What selection comes to, as the code answers it: a refusal, or place facts and a choice.
use Rattle.std.specs.Prelude.{ℕ, Bool, List, ◌≡◌, Result, IfOk}
use Rattle.octets.specs.Refusal.{refusal}
use Rattle.record.specs.Line.{Line}
use Rattle.refusal.specs.Numbers.{number_in}
use Rattle.refusal.specs.declared.Refusal.{Refusal}
use Rattle.selection.specs.Query.{TextWithin}
use Rattle.rules.specs.Call.{Event}
use Rattle.rules.specs.Life.{decided, outcome}
use Rattle.rules.specs.Refusals.{refusals_of}
use Rattle.selecting.specs.declared.Selected.{Selected}

-- what the code's choice says of an event on a line as a call finds it: the refusal number, of an accepted one that it comes to what is decided by the choice, and that a name in the text lies within it
pub record Selects (r : Result Selected Refusal) (e : Event) (out : Bool) (x : Line) (text : List ℕ) : Type 0 where
  pub refusal_is : refusal (refusals_of e out x) ≡ number_in r
  pub outcome_is : IfOk r (λ s. outcome e x ≡ decided x s.facts text s.choice)
  pub within : IfOk r (λ s. TextWithin text s.choice)
