-- `buffer::number::put` meets its contract. The loop goes from the last octet to the first; its invariant: the octets that are left, stored
-- before what is stored already, make the whole.
use Rattle.std.proofs.Common.{◌≡◌}
use Rattle.std.proofs.lemmas.List.Edits.{sets}
use Rattle.octets.specs.Digits.{be}
use Rattle.buffer.proofs.number.put.Given as goal

abbrev pub invariant-loop-i : goal.invariant-loop-i
invariant-loop-i l = sets l.s l.at (be l.i l.rest) ≡ sets l.initial.s l.at (be l.n l.x)
