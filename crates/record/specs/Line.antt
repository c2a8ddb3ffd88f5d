-- A line as the rules see it.
use Rattle.std.specs.Prelude.{ℕ, List}
use Rattle.address.specs.declared.Hold.{Hold}
use Rattle.children.specs.Listed.{children_of}
use Rattle.children.specs.declared.Child.{Child}
use Rattle.holds.specs.Listed.{holds_of}
use Rattle.phase.specs.declared.Phase.{Phase}
use Rattle.record.specs.declared.Record.{Record}

-- the last accepted time, the phase, and the holds and child associations in the order made
pub record Line : Type 0 where
  pub time : ℕ
  pub phase : Phase
  pub holds : List Hold
  pub children : List Child

-- the line that the code's struct holds
unfoldable pub line_of : Record → Line
line_of r = record { time = r.time; phase = r.phase; holds = holds_of r.holds; children = children_of r.children }
