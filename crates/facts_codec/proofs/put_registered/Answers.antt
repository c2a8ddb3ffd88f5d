-- `facts_codec::put_registered` meets its contract: three writes, each where the one before it ends, or zeros.
use mathlib.Core.Path.{refl}
use Rattle.octets.specs.Digits.{be, digits}
use Rattle.octets.proofs.Parts.{then}
use Rattle.phase.specs.Facts.{registered_octets}
use Rattle.facts_codec.proofs.put_registered.Goals as goal

pub returns-in-Some : goal.returns-in-Some
unfolding registered_octets be digits
returns-in-Some c =
    rw c.in-Some.is (then (then c.put.ensures c.put-in-Some.ensures refl) c.put-in-Some-2.ensures refl)

pub returns-in-None : goal.returns-in-None
unfolding registered_octets be digits
returns-in-None c = rw c.in-None.is c.put-in-None.ensures
