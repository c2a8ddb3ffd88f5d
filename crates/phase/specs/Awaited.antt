-- The place facts of a line that waits for the country answer.
use Rattle.std.specs.Prelude.{Option, None, Some}
use Rattle.place.specs.declared.Facts.{Facts}
use Rattle.phase.specs.declared.Phase.{Phase}
use Rattle.phase.specs.declared.Phase.TheVariants.{Country}

-- a line waits for the country answer in phase country alone
unfoldable pub awaited_in : Phase → Option Facts
awaited_in (Country f) = Some f
awaited_in _ = None
