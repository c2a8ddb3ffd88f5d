-- `query::put_code` meets its contract: the digits are stored right after the label, so that both are one write.
use mathlib.Core.Path.{refl}
use Rattle.octets.proofs.Parts.{then}
use Rattle.query.proofs.put_code.Goals as goal

pub returns : goal.returns
returns c =
    then c.copy.ensures c.put_digits.ensures refl
