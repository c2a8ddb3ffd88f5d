-- What a bounded list holds.
use Rattle.std.specs.Prelude.{ℕ, List, take}
use Rattle.bounded.specs.declared.Bounded.{Bounded}

module _ {T : Type 0} {N : ℕ} where
  -- the values below the count, in their order
  abbrev pub items_of : Bounded T N → List T
  items_of b = take b.count b.list
