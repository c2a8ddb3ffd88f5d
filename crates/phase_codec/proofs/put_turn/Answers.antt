-- `phase_codec::put_turn` meets its contract: the identifier stands behind how far it is.
use Rattle.std.proofs.Common.{◌≡◌, ◌++◌, refl}
use Rattle.octets.specs.Digits.{be, digits}
use Rattle.octets.proofs.Parts.{then}
use Rattle.phase.specs.Phase.{turn_octets}
use Rattle.phase_codec.proofs.put_turn.Goals as goal
use Rattle.phase_codec.proofs.put_turn.Goals.{in-First, in-Owed, in-Answered}

pub returns : goal.returns
unfolding turn_octets be digits
returns c =
    let stored = c.match-turn.kind in
    let two : turn_octets c.args.turn ≡ be 1 stored.0 ++ be 1 stored.1 =
    elim c.match-turn.branch [ in-First w ↦ rw (w.in-First.is, w.kind-is) | in-Owed w ↦ rw (w.in-Owed.is, w.kind-is) | in-Answered w ↦ rw (w.in-Answered.is, w.kind-is) ] in
    rw two (then c.put.ensures c.put-2.ensures refl)
