-- The number of each place where selection stops, in the order of its steps.
use Rattle.std.specs.Prelude.{ℕ}
use Rattle.selection.specs.declared.Stop.{Stop}
use Rattle.selection.specs.declared.Stop.TheVariants as At

abbrev pub stop_number : Stop → ℕ
stop_number At.Place = 1
stop_number At.NoReply = 2
stop_number At.Barred = 3
stop_number At.Address = 4
