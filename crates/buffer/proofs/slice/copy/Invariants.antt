-- `buffer::slice::copy` meets its contract. The loop's invariant: the octets passed are stored one after another.
use mathlib.Core.Path.{◌≡◌}
use lib.ListN.{take}
use lib.Seq.{sets}
use Rattle.buffer.proofs.slice.copy.Given as goal

abbrev pub invariant-loop-i : goal.invariant-loop-i
invariant-loop-i l = l.dst ≡ sets l.initial.dst l.at (take l.i l.src)
