-- No refusal has the number 0.
use Prim.Native.Nat.{◌≤◌}
use native.Mathlib.Omega.{arith}
use Rattle.refusal.specs.Numbers.{number_of}
use Rattle.refusal.specs.declared.Refusal.{Refusal}

pub some_number : (r : Refusal) → 1 ≤ number_of r
some_number Refusal.Table = omega arith
some_number Refusal.Pair = omega arith
some_number Refusal.Buffer = omega arith
some_number Refusal.Open = omega arith
some_number Refusal.NotOpen = omega arith
some_number Refusal.Full = omega arith
some_number Refusal.Early = omega arith
some_number Refusal.Range = omega arith
some_number Refusal.Malformed = omega arith
some_number Refusal.Phase = omega arith
some_number Refusal.Spi = omega arith
some_number Refusal.Children = omega arith
some_number Refusal.Holds = omega arith
