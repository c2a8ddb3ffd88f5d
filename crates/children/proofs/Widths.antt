-- How many octets a child has.
use mathlib.Core.Path.{◌≡◌, refl}
use lib.ListN.{length}
use Rattle.octets.specs.Digits.{be, digits}
use Rattle.children.specs.Children.{child_octets}
use Rattle.children.specs.declared.Child.{Child}

pub child_wide : (c : Child) → length (child_octets c) ≡ 5
unfolding child_octets be digits
child_wide c = refl

-- what stands past the end of a list
abbrev pub nothing : Child
nothing = record { spi = 0; session = 0 }
