-- `response::put_block` meets its contract: the octets follow their length.
use mathlib.Core.Path.{refl}
use Rattle.octets.specs.Digits.{be, digits}
use Rattle.octets.proofs.Parts.{then}
use Rattle.response.specs.Response.{block}
use Rattle.response.proofs.put_block.Goals as goal

pub returns : goal.returns
unfolding block be digits
returns c = then c.put.ensures c.copy.ensures refl
