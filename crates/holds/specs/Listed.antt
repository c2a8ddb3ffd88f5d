-- The holds of a line as the list that they are.
use Rattle.std.specs.Prelude.{List}
use Rattle.address.specs.Address.{most_holds}
use Rattle.address.specs.declared.Hold.{Hold}
use Rattle.bounded.specs.Bounded.{items_of}
use Rattle.bounded.specs.declared.Bounded.{Bounded}

-- those of the places below the count
abbrev pub holds_of : Bounded Hold most_holds → List Hold
holds_of h = items_of h
