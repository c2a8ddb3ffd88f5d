-- `buffer::slice::zeros_at` meets its contract. The loop's invariant: the bits are none exactly where the words passed and the last one are zeros.
use Rattle.std.proofs.Common.{◌≡◌, ◌+◌, ◌-◌, ◌*◌, ◌&&◌, eqb}
use Rattle.octets.specs.Part.{zeros_at}
use Rattle.buffer.proofs.slice.zeros_at.Given as goal

abbrev pub invariant-loop-i : goal.invariant-loop-i
invariant-loop-i l = eqb l.bits 0 ≡ zeros_at l.s l.at (8 * l.i) && zeros_at l.s (l.at + l.n - 8) 8
