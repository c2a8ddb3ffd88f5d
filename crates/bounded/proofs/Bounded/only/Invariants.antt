-- Those of the values passed that pass the test stand in the list.
use Rattle.std.proofs.Common.{Bool, ◌≡◌, ◌≤◌, take}
use Rattle.octets.specs.Row.{only}
use Rattle.bounded.proofs.Bounded.only.Given as goal

abbrev pub invariant-loop-value : goal.invariant-loop-value
invariant-loop-value g l = record {
  few : l.kept.count ≤ l.value-index;
  kept_of : (p : g.row.T.Denot → Bool) → ((x : g.row.T.Denot) (b : Bool) → goal.F-post g l.passes x b → b ≡ p x) → take l.kept.count l.kept.list ≡ only p (take l.value-index l.values);
}
