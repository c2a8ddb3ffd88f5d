-- The first record of a pair, as a search of the records finds it.
use Rattle.std.specs.Prelude.{Option, None, Some, MatchOption}
use Prim.Native.Nat.{ℕ, zero, suc, ◌≤◌, ◌<◌}
use mathlib.Core.List.{List}
use mathlib.Core.Path.{◌≡◌, refl}
use native.Mathlib.Omega.{arith}
use borrow.Author.Tests.{ne_eqb}
use Rattle.octets.specs.Search.{least}
use Rattle.octets.proofs.Search.{least_more}
use Rattle.table.specs.Table.{has_pair, pair_at, record_count, record_of}
use Rattle.table.proofs.Slots.{pair_here}

module _ (l : List ℕ) (pair : ℕ) where
  -- none of the first i records has the pair
  abbrev NoneBefore : ℕ → Type 0
  NoneBefore i = (k : ℕ) → 0 ≤ k → k < i → pair_at l k ≡ pair → ⊥

  none_before : (i : ℕ) → NoneBefore i → least i (has_pair l pair) ≡ i
  unfolding least has_pair
  none_before zero none = refl
  none_before (suc i) none =
      least_more i (has_pair l pair) (none_before i (λ k h b. none k h (omega (arith, b)))) (ne_eqb (pair_at l i) pair (none i (omega arith) (omega arith)))

  pub first_of : (r : Option ℕ) → MatchOption r (NoneBefore record_count) (λ i. (0 ≤ i) × (i < record_count) × (pair_at l i ≡ pair) × NoneBefore i)
      → MatchOption r (record_count ≤ record_of l pair) (λ i. (i ≡ record_of l pair) × (i < record_count))
  unfolding record_of
  first_of None none = omega (arith, none_before record_count none)
  first_of (Some i) found = (pair_here l pair i record_count (none_before i found.3) found.1 found.2, found.1)
