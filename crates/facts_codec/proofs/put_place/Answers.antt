-- `facts_codec::put_place` meets its contract: the first octet says which place it is, and the MCC stands behind.
use mathlib.Core.Path.{refl}
use Rattle.octets.specs.Digits.{be, digits}
use Rattle.octets.proofs.Parts.{then}
use Rattle.phase.specs.Facts.{place_octets}
use Rattle.facts_codec.proofs.put_place.Goals as goal

pub returns-in-Unknown : goal.returns-in-Unknown
unfolding place_octets be digits
returns-in-Unknown c = rw c.in-Unknown.is c.put.ensures

pub returns-in-Home : goal.returns-in-Home
unfolding place_octets be digits
returns-in-Home c =
    rw c.in-Home.is (then c.put-in-Home.ensures c.put-in-Home-2.ensures refl)

pub returns-in-Abroad : goal.returns-in-Abroad
unfolding place_octets be digits
returns-in-Abroad c =
    rw c.in-Abroad.is (then c.put-in-Abroad.ensures c.put-in-Abroad-2.ensures refl)
