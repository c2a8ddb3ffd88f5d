-- `fields::read::priority_at` meets its contract. The loop's invariant: a priority that stands there has no fewer digits.
use Rattle.std.proofs.Common.{◌≡◌, ℕ, ◌≤◌, List, ◌∷◌, ◌++◌, length, drop}
use Rattle.std.specs.Prelude.{Some}
use Rattle.entry.specs.Field.{priority_of}
use Rattle.fields.proofs.read.priority_at.Given as goal

abbrev pub invariant-loop-width : goal.invariant-loop-width
invariant-loop-width l = (c m : List ℕ) (x : ℕ) → drop l.at l.text ≡ c ++ 10 ∷ m → priority_of c ≡ Some x → l.width ≤ length c
