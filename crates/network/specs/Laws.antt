-- What holds of the PLMNs and names of this crate; the function `laws` promises it.
use Rattle.std.specs.Prelude.{ℕ, true, List, ◌≡◌, length, Some, slice_get}
use Rattle.network.specs.Plmn.{among}
use Rattle.network.specs.Name.{operator_name, visited_name}
use Rattle.network.specs.declared.Plmn.{Plmn}

pub record Laws : Type 0 where
  -- a PLMN stands in a list exactly where an element of the list is that PLMN
  pub among_only : (p : Plmn) (ps : List Plmn) → among p ps ≡ true → (i : ℕ) × (slice_get ps i ≡ Some p)
  pub among_always : (p : Plmn) (ps : List Plmn) (i : ℕ) → slice_get ps i ≡ Some p → among p ps ≡ true
  -- the name of every operator's network has 43 octets
  pub operator_length : (plmn : Plmn) → length (operator_name plmn) ≡ 43
  -- the name of every visited country has 52 octets
  pub visited_length : (mcc : ℕ) → length (visited_name mcc) ≡ 52
