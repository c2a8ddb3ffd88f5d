-- `eap::is_expanded` meets its contract: type, vendor and vendor type are tested as one number.
use Rattle.std.proofs.Common.{eqb-true, sym, ◌∙◌, arith}
use borrow.Author.Tests.{leb-true}
use Rattle.eap.specs.Packet.{length_field}
use Rattle.eap.proofs.Headers.{by_word}
use Rattle.eap.proofs.is_expanded.Goals as goal
use Rattle.eap.proofs.is_expanded.Goals.{then-n-ge14, else-n-ge14}

pub returns-then-get-n-clause-value : goal.returns-then-get-n-clause-value
unfolding length_field
returns-then-get-n-clause-value c =
    elim c.if-n-ge14.branch [
      | then-n-ge14 w ↦ by_word _ w.if-n-ge14.true (sym w.get.ensures.0 ∙ eqb-true _ _ (sym w.value-is ∙ c.if-get-n.true)) c.word.ensures.1 _ c.word.ensures.0
      | else-n-ge14 w ↦ absurd (omega (arith, leb-true _ _ (sym w.value-is ∙ c.if-get-n.true)))
    ]
