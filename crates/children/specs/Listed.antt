-- The children of a line as the list that they are.
use Rattle.std.specs.Prelude.{List}
use Rattle.bounded.specs.Bounded.{items_of}
use Rattle.bounded.specs.declared.Bounded.{Bounded}
use Rattle.children.specs.Children.{most_children}
use Rattle.children.specs.declared.Child.{Child}

-- those of the places below the count
abbrev pub children_of : Bounded Child most_children → List Child
children_of c = items_of c
