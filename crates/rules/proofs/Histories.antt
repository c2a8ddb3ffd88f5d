-- Every history leaves a sound table.
use Prim.Native.Nat.{ℕ}
use mathlib.Core.Bool.{true}
use mathlib.Core.List.{List, [], ◌∷◌}
use mathlib.Core.Path.{◌≡◌}
use Rattle.octets.specs.Part.{zeros}
use Rattle.octets.specs.Search.{all_of}
use Rattle.octets.proofs.Search.{and_left, and_right}
use Rattle.table.specs.Table.{table_length}
use Rattle.rules.specs.Call.{Call}
use Rattle.rules.specs.Claims.{Good}
use Rattle.rules.specs.Histories.{is_octets, table_after}
use Rattle.rules.specs.Run.{run}
use Rattle.rules.proofs.Isolation.{empty_good}
use Rattle.rules.proofs.Runs.{run_sound}

pub history_sound_from : (h : List Call) (l : List ℕ) → all_of is_octets h ≡ true → Good l → Good (table_after h l)
unfolding table_after all_of
history_sound_from [] l octets good = good
history_sound_from (c ∷ h) l octets good =
    history_sound_from h (run c l).table (and_right (is_octets c) (all_of is_octets h) octets) (run_sound c l (and_left (is_octets c) (all_of is_octets h) octets) good)

pub history_sound : (h : List Call) → all_of is_octets h ≡ true → Good (table_after h (zeros table_length))
history_sound h octets = history_sound_from h (zeros table_length) octets empty_good
