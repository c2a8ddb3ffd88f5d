-- What is told of a choice that may be an address on hold.
use mathlib.Core.Bool.{Bool}
use mathlib.Core.List.{List}
use mathlib.Core.Path.{◌≡◌, ap, ◌∙◌}
use Rattle.address.specs.Address.{held_addresses, stands}
use Rattle.address.specs.declared.Address.{Address}
use Rattle.address.specs.declared.Hold.{Hold}
use Rattle.selection.specs.declared.Choice.{Choice}
use Rattle.attempt.specs.Attempt.{HoldTold}

module _ (c : Choice) (t : Bool) (hs : List Hold) where
  pub of_address : (a : Address) → c ≡ Choice.Address a → t ≡ stands a (held_addresses hs) → HoldTold t c hs
  of_address a is told b e =
      let same : a ≡ b = cc in
      told ∙ ap (λ (x : Address). stands x (held_addresses hs)) same

  -- nothing is told of any other choice
  pub of_other : ((a : Address) → c ≡ Choice.Address a → ⊥) → HoldTold t c hs
  of_other other a e = absurd (other a e)
