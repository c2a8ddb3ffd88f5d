-- What is told of a step and what it left of a record is what the step comes to on the record's line.
use Rattle.std.specs.Prelude.{Result, Ok, Err, IsErr, IsErrAnd}
use Prim.Native.Nat.{ℕ, zero, suc, ◌≤◌}
use mathlib.Core.List.{List, []}
use mathlib.Core.Path.{◌≡◌, refl, sym, ap, ◌∙◌, subst}
use native.Mathlib.Omega.{arith}
use lib.Dec.{ltb}
use Rattle.octets.specs.Refusal.{refusal}
use Rattle.record.specs.Changes.{current}
use Rattle.record.specs.Line.{Line, line_of}
use Rattle.record.specs.declared.Record.{Record}
use Rattle.refusal.proofs.Numbers.{some_number}
use Rattle.refusal.specs.declared.Refusal.{Refusal}
use Rattle.rules.specs.Answer.{numbers_of, part_named}
use Rattle.rules.specs.Call.{Event, last_time}
use Rattle.rules.specs.Refusals.{refusals_of}
use Rattle.rules.specs.declared.Action.{Action}
use Rattle.step.specs.Step.{Effect, action_in, effect, effect_in, outcome_by}
use Rattle.step.specs.declared.Done.{Done}
use Rattle.lent.specs.Left.{Leaves, action_told, effect_left}

pub left_by : (s : Result Done Refusal) (old new : Record) (told : Result Action Refusal) (part buffer : List ℕ) (f : Effect) → Leaves s old new told
    → effect_in (line_of old) s part buffer ≡ f → effect_left told new part buffer ≡ f
unfolding effect_left
left_by (Ok d) old new told part buffer f leaves is = rw (leaves.0, leaves.1) is
left_by (Err r) old new told part buffer f leaves is = rw (leaves.0, leaves.1) is

-- the same where the part is the one that the action names
pub left_named : (s : Result Done Refusal) (old new : Record) (told : Result Action Refusal) (text name packet buffer : List ℕ) (f : Effect) → Leaves s old new told
    → effect_in (line_of old) s (part_named (numbers_of (action_in s)) text name packet) buffer ≡ f
    → effect_left told new (part_named (numbers_of (action_told told)) text name packet) buffer ≡ f
unfolding effect_left
left_named (Ok d) old new told text name packet buffer f leaves is = rw (leaves.0, leaves.1) is
left_named (Err r) old new told text name packet buffer f leaves is = rw (leaves.0, leaves.1) is

module _ (e : Event) (time : ℕ) (x : Line) where
  -- a refused event leaves the line as it was
  same_line : 1 ≤ (effect e time x).refusal → (effect e time x).line ≡ x
  unfolding effect outcome_by
  same_line = go (refusal (refusals_of e (ltb last_time time) (current time x)))
    where
      go : (n : ℕ) → 1 ≤ n → (outcome_by n e x (current time x)).line ≡ x
      go zero some = absurd (omega arith)
      go (suc n) some = refl

  -- so the step on the record itself is refused alike
  pub refused_alike : (s : Result Done Refusal) (r : Refusal) (new : Record) → IsErr s × IsErrAnd s (λ q. q ≡ r) → effect_left (Err r) new [] [] ≡ effect e time x
      → effect_in x s [] [] ≡ effect e time x
  unfolding effect_left
  refused_alike (Ok d) r new is left = absurd is.1
  refused_alike (Err q) r new is left =
      let some = subst (λ (n : ℕ). 1 ≤ n) (ap (λ (f : Effect). f.refusal) left) (some_number r) in
      let line = ap (λ (f : Effect). f.line) left ∙ same_line some in
      rw is.1 (ap (λ (y : Line). effect_in y (Err r) [] []) (sym line) ∙ left)
