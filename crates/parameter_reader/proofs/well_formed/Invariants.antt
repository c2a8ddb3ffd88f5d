-- `parameter_reader::well_formed` meets its contract. The loop's invariant: the block is well formed exactly if what is left of it is, within
-- some count of AN-parameters that is not below the octets left.
use Rattle.std.proofs.Common.{◌≡◌, ℕ, ◌-◌, ◌≤◌, List, length, drop}
use Rattle.parameters.specs.Parameters.{well_formed, well_formed_in}
use Rattle.parameter_reader.proofs.well_formed.Given as goal

-- what is left of a block from a place decides it, within some count
abbrev pub Left : List ℕ → ℕ → Type 0
Left l at = (n : ℕ) × (length l - at ≤ n) × (well_formed_in n (drop at l) ≡ well_formed l)

abbrev pub invariant-loop-parameter : goal.invariant-loop-parameter
invariant-loop-parameter l = (l.at ≤ length l.parameters) × Left l.parameters l.at

abbrev pub decreases-loop-parameter : goal.decreases-loop-parameter
decreases-loop-parameter l = length l.parameters - l.at
