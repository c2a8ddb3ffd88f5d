-- `hold_codec::ends_at_after` meets its contract: the end is what the last five of eight octets say.
use Rattle.hold_codec.proofs.Ends.{end_after_lem}
use Rattle.hold_codec.proofs.ends_at_after.Goals as goal

pub returns : goal.returns
returns c = end_after_lem _ (λ i. (c.type_inv.b i).fits) _ c.requires _ _ c.get-end.ensures.0
