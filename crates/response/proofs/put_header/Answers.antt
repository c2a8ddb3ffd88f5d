-- `response::put_header` meets its contract: eight fields, each stored right after the one before it.
use mathlib.Core.Path.{refl}
use Rattle.octets.specs.Digits.{be, digits}
use Rattle.octets.proofs.Parts.{then}
use Rattle.response.specs.Response.{header}
use Rattle.response.proofs.put_header.Goals as goal

pub returns : goal.returns
unfolding header be digits
returns c =
    let w2 = then c.put.ensures c.put-2.ensures refl in
    let w3 = then w2 c.put-3.ensures refl in
    let w4 = then w3 c.put-4.ensures refl in
    let w5 = then w4 c.put-5.ensures refl in
    let w6 = then w5 c.put-6.ensures refl in
    let w7 = then w6 c.put-7.ensures refl in
    then w7 c.put-8.ensures refl
