-- `hold_codec::put_hold` meets its contract: two writes, the second where the first ends.
use Prim.Native.Nat.{ℕ, ◌+◌}
use mathlib.Core.Path.{sym, ap}
use Rattle.octets.proofs.Parts.{then}
use Rattle.addresses.proofs.Widths.{address_wide}
use Rattle.holds.specs.Holds.{hold_octets}
use Rattle.holds.proofs.Widths.{written_end}
use Rattle.hold_codec.proofs.put_hold.Goals as goal

pub returns : goal.returns
unfolding hold_octets
returns c =
    let a = c.args in
    then c.put_address.ensures (written_end c.end_number.ensures c.put.ensures)
    (ap (λ (k : ℕ). a.at + k) (sym (address_wide a.hold.address)))
