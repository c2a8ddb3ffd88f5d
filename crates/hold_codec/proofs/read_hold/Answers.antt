-- `hold_codec::read_hold` meets its contract: the end stands behind the address.
use mathlib.Core.Path.{ap, ap₂, ◌∙◌}
use Rattle.address.specs.declared.Address.{Address}
use Rattle.address.specs.declared.End.{End}
use Rattle.holds.specs.Holds.{end_of, hold_from}
use Rattle.hold_codec.proofs.read_hold.Goals as goal

pub returns : goal.returns
unfolding hold_from
returns c = ap₂ (λ (a : Address) (e : End). record { address = a; end = e }) c.read_address-address.ensures (c.end_of-end.ensures ∙ ap end_of c.get.ensures.0)
