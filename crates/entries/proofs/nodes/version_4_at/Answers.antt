-- `entries::nodes::version_4_at` meets its contract: eight digits and a newline are the address.
use Rattle.std.proofs.Common.{refl}
use Rattle.address.specs.Address.{address_of, width_of}
use Rattle.entries.proofs.nodes.version_4_at.Goals as goal

pub returns-in_err-digits : goal.returns-in_err-digits
unfolding width_of
returns-in_err-digits c = rw c.from_residual.ensures c.in_err-digits.ensures

pub returns : goal.returns
unfolding address_of width_of
returns c =
    let number = c.in_ok-digits.ensures in
    (number.0, c.in_ok-digits.digits.value, number.1, number.2, number.3, refl)
