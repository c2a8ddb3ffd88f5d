-- `fields::name::name_end` meets its contract. The loop's invariant: each octet passed may stand in a name.
use Rattle.std.proofs.Common.{◌≡◌, ℕ, ◌≤◌, ◌<◌, true, get_or}
use Rattle.entry.specs.Field.{is_name_character}
use Rattle.fields.proofs.name.name_end.Given as goal

abbrev pub invariant-loop-i : goal.invariant-loop-i
invariant-loop-i l = (l.at ≤ l.i) × ((k : ℕ) → l.at ≤ k → k < l.i → is_name_character (get_or l.text k 0) ≡ true)
