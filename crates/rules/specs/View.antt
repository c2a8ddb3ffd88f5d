-- What a call sees of the table: whether it is sound, whether a record is free, and its own tenant's lines.
use Rattle.std.specs.Prelude.{ℕ, suc, Bool, List, [], get_or, Option, None, Some}
use Rattle.octets.specs.Row.{row}
use Rattle.phase.specs.declared.Phase.TheVariants.{Idle}
use Rattle.record.specs.Changes.{current}
use Rattle.record.specs.Sound.{last_line}
use Rattle.record.specs.Line.{Line}
use Rattle.table.specs.Slots.{Slot, is_open, line_at, slots_of}
use Rattle.table.specs.Table.{free_pair, is_table}
use Rattle.rules.specs.Call.{Call, pair_of, tenant_of}

pub record View : Type 0 where
  pub sound : Bool
  pub free : Bool
  pub lines : List (Option Line)

unfoldable pub own_line : ℕ → List Slot → ℕ → Option Line
own_line tenant ss line = line_at (pair_of tenant line) ss

-- the lines of a tenant by their numbers
abbrev pub own_lines : ℕ → List Slot → List (Option Line)
own_lines tenant ss = row (own_line tenant ss) 0 (suc last_line)

unfoldable pub view_of : Bool → ℕ → List Slot → View
view_of sound tenant ss = record { sound = sound; free = is_open free_pair ss; lines = own_lines tenant ss }

unfoldable pub view_in : Call → List ℕ → View
view_in c l = view_of (is_table l) (tenant_of c) (slots_of l)

-- the line with a number, where it is open
unfoldable pub line_seen : View → ℕ → Option Line
line_seen v line = get_or v.lines line None

-- open sets the time to 0
unfoldable pub fresh : Line
fresh = record { time = 0; phase = Idle; holds = []; children = [] }

-- a pair that isn't open is refused whatever its line would be
unfoldable pub line_or : Option Line → Line
line_or None = fresh
line_or (Some x) = x

-- the line as a timed call finds it, its ended holds dropped
unfoldable pub line_found : ℕ → ℕ → View → Line
line_found line time v = current time (line_or (line_seen v line))
