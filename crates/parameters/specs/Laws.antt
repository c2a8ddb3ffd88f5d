-- What holds of reading AN-parameters one after another, for every block; the function `laws` promises it.
use Rattle.std.specs.Prelude.{ℕ, ◌+◌, ◌≤◌, true, List, [], ◌∷◌, ◌++◌, map, ◌≡◌, length, Some, Ok}
use Rattle.octets.specs.Row.{joined}
use Rattle.parameters.specs.Parameters.{parameter_at, well_formed}
use Rattle.parameters.specs.Reading.{parameter, parameter_octets, an_parameters, ending, readings}
use Rattle.parameters.specs.declared.Parameter.{Parameter}

pub record Laws : Type 0 where
  -- reading on from the start gives the AN-parameters in order, and then the end of a well-formed block, a broken one of any other
  pub reads_on : (l : List ℕ) → readings l ≡ map parameter (an_parameters l) ++ (ending l ∷ [])
  -- the value of a whole AN-parameter starts behind its two first octets and ends where the next one begins, within the block
  pub whole_lies : (l : List ℕ) (at : ℕ) (p : Parameter) → parameter_at l at ≡ Ok (Some p)
      → (p.start ≡ at + 2) × (p.start + p.length ≡ p.next) × (p.next ≤ length l)
  -- the AN-parameters of a well-formed block, written one behind the other, are the block
  pub written_back : (l : List ℕ) → well_formed l ≡ true → joined parameter_octets (an_parameters l) ≡ l
