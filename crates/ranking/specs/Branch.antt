-- What the private functions answer, in the terms of `Preference` of `preference`.
use Rattle.std.specs.Prelude.{Option, None, Some}
use Rattle.entry.specs.declared.field.Preferred.{Preferred}
use Rattle.preference.specs.Preference.{better}

-- the best of the records so far and of those behind them
unfoldable pub best_of : Option Preferred → Option Preferred → Option Preferred
best_of None later = later
best_of (Some x) later = Some (better x later)
