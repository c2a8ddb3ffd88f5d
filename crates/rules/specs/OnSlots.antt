-- The same rules on slots instead of octets: what `run` does to a sound table, and a form in which whole histories are computed.
use Rattle.std.specs.Prelude.{ℕ, zero, suc, true, List, [], ◌∷◌}
use Rattle.octets.specs.Refusal.{refusal}
use Rattle.table.specs.Slots.{Slot, replaced}
use Rattle.rules.specs.Answer.{Answer, refused}
use Rattle.rules.specs.Call.{Call, tenant_of}
use Rattle.rules.specs.Refusals.{refusals}
use Rattle.rules.specs.Run.{Act, stay, replace, Step, step}
use Rattle.rules.specs.View.{view_of}

unfoldable pub applied_on : Act → List Slot → List Slot
applied_on stay ss = ss
applied_on (replace pair s) ss = replaced pair s ss

pub record Seen : Type 0 where
  pub answer : Answer
  pub slots : List Slot

unfoldable pub settled_on : ℕ → Call → Step → List Slot → Seen
settled_on zero c s ss = record { answer = s.answer; slots = applied_on s.act ss }
settled_on (suc n) c s ss = record { answer = refused (suc n) c; slots = ss }

unfoldable pub run_on : Call → List Slot → Seen
run_on c ss =
    let v = view_of true (tenant_of c) ss in
    settled_on (refusal (refusals c v)) c (step c v) ss

-- all answers of a history
unfoldable pub answers_on : List Call → List Slot → List Answer
answers_on [] ss = []
answers_on (c ∷ h) ss =
    let r = run_on c ss in
    r.answer ∷ answers_on h r.slots
