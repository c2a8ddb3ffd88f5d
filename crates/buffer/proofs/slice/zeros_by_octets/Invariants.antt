-- `buffer::slice::zeros_by_octets` meets its contract. The loop's invariant: the bits so far and the octets that are left decide.
use Rattle.std.proofs.Common.{◌≡◌, ◌-◌, ◌&&◌, drop, eqb, length}
use Rattle.octets.specs.Part.{same, zeros}
use Rattle.buffer.proofs.slice.zeros_by_octets.Given as goal

abbrev pub invariant-loop-octet : goal.invariant-loop-octet
invariant-loop-octet l =
    same l.octet-items (zeros (length l.octet-items)) ≡ eqb l.bits 0 && same (drop l.octet-index l.octet-items) (zeros (length l.octet-items - l.octet-index))
