-- A line of which only the phase and the children are known: it has no holds, so nothing is wrong with them.
use Prim.Native.Nat.{ℕ}
use mathlib.Core.Bool.{Bool, true, false, ◌||◌}
use mathlib.Core.List.{List, []}
use Rattle.std.specs.Prelude.{Option, None, Some}
use mathlib.Core.Path.{◌≡◌, refl, sym, subst}
use Rattle.octets.specs.Search.{all_of, any_of, distinct}
use Rattle.address.specs.Address.{stands}
use Rattle.address.specs.declared.Address.{Address}
use Rattle.children.specs.declared.Child.{Child}
use Rattle.holds.specs.Holds.{different}
use Rattle.phase.specs.Chosen.{chosen}
use Rattle.phase.specs.Stage as Stage
use Rattle.phase.specs.Stage.{is_in}
use Rattle.phase.specs.declared.Phase.{Phase}
use Rattle.record.specs.Changes.{unheld}
use Rattle.record.specs.Line.{Line, line_of}
use Rattle.record.specs.Sound.{chosen_free, holds_sound}
use Rattle.record.specs.declared.Record.{Record}

passes : (b : Bool) → b || true ≡ true
passes true = refl
passes false = refl

none_chosen : (a : Option Address) → chosen_free a [] ≡ true
unfolding chosen_free stands any_of
none_chosen None = refl
none_chosen (Some a) = refl

none_held : (time : ℕ) (p : Phase) → holds_sound time p [] ≡ true
unfolding holds_sound different distinct all_of
none_held time p = rw (passes (is_in Stage.idle p), none_chosen (chosen p)) refl

pub unheld_sound : (r : Record) (p : Phase) (cs : List Child) → line_of r ≡ unheld p cs → holds_sound r.time r.phase (line_of r).holds ≡ true
unfolding line_of unheld
unheld_sound r p cs e = subst (λ (x : Line). holds_sound x.time x.phase x.holds ≡ true) (sym e) (none_held 0 p)
