-- The list has the values below the index.
use Rattle.std.proofs.Common.{ℕ, ◌≡◌, take}
use Rattle.octets.specs.Row.{row}
use Rattle.bounded.proofs.Bounded.from_fn.Given as goal

abbrev pub invariant-loop-i : goal.invariant-loop-i
invariant-loop-i g l = record {
  counted : l.made.count ≡ l.i;
  made_of : (f : ℕ → g.row.T.Denot) → ((i : ℕ) (x : g.row.T.Denot) → goal.F-post g l.value i x → x ≡ f i) → take l.made.count l.made.list ≡ row f 0 l.i;
}
