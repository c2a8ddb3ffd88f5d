-- What the address answer comes to.
use Prim.Native.Nat.{ℕ}
use mathlib.Core.List.{List}
use mathlib.Core.Path.{◌≡◌, sym, ap, ◌∙◌}
use Rattle.address.specs.Address.{held_addresses}
use Rattle.gateway.specs.Gateway.{choose}
use Rattle.gateway.specs.declared.Found.{Found}
use Rattle.lists.specs.Lists.{addresses_in}
use Rattle.phase.specs.declared.Phase.{Phase}
use Rattle.phase.specs.declared.Phase.TheVariants.{Name}
use Rattle.place.specs.declared.Facts.{Facts}
use Rattle.record.specs.Line.{Line}
use Rattle.rules.specs.Call.{address}
use Rattle.rules.specs.Life.{address_answered, gateway_found, goes, outcome}
use Rattle.rules.specs.Phases.{facts_in}
use Rattle.attempt.specs.Attempt.{Comes}
use Rattle.attempt.specs.declared.Move.{Move}

-- the address answer to a line that waits for it
pub of_addresses : (l : List ℕ) (x : Line) (facts : Facts) (f : Found) (r : Move) → x.phase ≡ Name facts
    → f ≡ choose facts.version (held_addresses x.holds) (addresses_in l) → Comes r f → outcome (address l) x ≡ goes x r.phase r.action
unfolding outcome address_answered facts_in
of_addresses l x facts f r waits e comes =
    ap (λ (p : Phase). address_answered x (facts_in p) (addresses_in l)) waits ∙ ap (gateway_found x) (sym e) ∙ comes x
