-- What a step with a name buffer answers, refused or accepted.
use Rattle.std.specs.Prelude.{Result, Ok, Err, IsErr, IsErrAnd}
use Prim.Native.Nat.{ℕ}
use mathlib.Core.List.{List, []}
use mathlib.Core.Path.{◌≡◌, refl, sym, ap, ap₂, ◌∙◌}
use native.Mathlib.Omega.{arith}
use lib.Dec.{ltb}
use Rattle.octets.specs.Part.{padded, part, zeros}
use Rattle.octets.specs.Refusal.{refusal}
use Rattle.record.specs.Changes.{current}
use Rattle.record.specs.Line.{Line}
use Rattle.refusal.specs.Numbers.{number_of}
use Rattle.refusal.specs.declared.Refusal.{Refusal}
use Rattle.rules.specs.Answer.{event_room, lent_in, numbers_of, part_named, PartWithin, twelve}
use Rattle.rules.specs.Call.{Event, last_time}
use Rattle.rules.specs.Life.{Outcome, outcome}
use Rattle.rules.specs.Refusals.{refusals_of}
use Rattle.rules.specs.declared.Action.{Action}
use Rattle.step.specs.Step.{action_in, effect, effect_in}
use Rattle.step.specs.declared.Done.{Done}
use Rattle.step.proofs.Steps.{taken, turned_away}
use Rattle.whole.specs.Finished.{Finished}

-- the action Nothing names no part
module _ (text name : List ℕ) where
  no_part : part_named (numbers_of Action.Nothing) text name [] ≡ []
  unfolding part_named numbers_of twelve lent_in part
  no_part = refl

  pub none_within : PartWithin (numbers_of Action.Nothing) text name []
  unfolding numbers_of twelve lent_in
  none_within = omega arith

module _ (e : Event) (time : ℕ) (x found : Line) (is_found : found ≡ current time x) (text name : List ℕ) where
  -- what a step with a name buffer promises
  abbrev Answers : Result Done Refusal → Type 0
  Answers s = (effect_in x s (part_named (numbers_of (action_in s)) text name []) name ≡ effect e time x) × PartWithin (numbers_of (action_in s)) text name []

  -- it is refused, and the name buffer holds zeros
  pub sent_back : (s : Result Done Refusal) (r : Refusal) → IsErr s × IsErrAnd s (λ q. q ≡ r) → refusal (refusals_of e (ltb last_time time) found) ≡ number_of r → name ≡ zeros (event_room e) → Answers s
  sent_back (Ok d) k is number empty = absurd is.1
  sent_back (Err r) k is number empty =
      (ap₂ (effect_in x (Err r)) (no_part text name) empty ∙ turned_away e time x found is_found r (number ∙ ap number_of (sym is.1)), none_within text name)

  -- it is accepted
  pub carried_out : refusal (refusals_of e (ltb last_time time) found) ≡ 0 → (o : Outcome) → outcome e found ≡ o → (d : Done) (room : ℕ) → room ≡ event_room e
      → Finished d o text name room → Answers (Ok d)
  carried_out number o is d room sized f =
      (ap₂ (effect_in x (Ok d)) f.part_is (f.name_is ∙ ap (λ (k : ℕ). padded k o.written) sized) ∙ taken e time x found is_found number o is f.line_is f.action_is, f.part_within)
