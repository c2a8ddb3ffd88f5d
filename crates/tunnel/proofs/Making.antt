-- What the making of a child has to show, on a line with whatever children stand.
use Rattle.std.specs.Prelude.{IsErr, Ok, Err, Result}
use Prim.Native.Nat.{ℕ}
use mathlib.Core.Bool.{false≢true}
use mathlib.Core.List.{List, []}
use mathlib.Core.Path.{◌≡◌, refl}
use Rattle.children.specs.declared.Child.{Child}
use Rattle.record.specs.Changes.{current, with_children}
use Rattle.record.specs.Line.{Line}
use Rattle.refusal.specs.declared.Refusal.{Refusal}
use Rattle.rules.specs.Call.{Event, child_made}
use Rattle.step.specs.Step.{Timely, effect_in}
use Rattle.step.specs.declared.Done.{Done}
use Rattle.tunnel.specs.Made.{made_on}

-- the event of a child
abbrev pub making : Child → Event
making c = child_made c.spi c.session

-- a call finds a line with other children as it finds the line
pub found_with : {f x : Line} {time : ℕ} → Timely f time x → (cs : List Child) → Timely (with_children f cs) time (with_children x cs)
unfolding current with_children
found_with found cs = record { in_range = found.in_range; line_is = rw found.line_is refl }

-- a refused child leaves the children
pub not_made : (x : Line) (s : Result Done Refusal) (c : Child) (cs : List Child) → IsErr s → made_on x s c cs ≡ effect_in (with_children x cs) s [] []
not_made x (Ok d) c cs is = absurd (false≢true is)
not_made x (Err r) c cs is = refl
