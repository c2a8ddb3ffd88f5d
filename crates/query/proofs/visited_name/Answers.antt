-- `query::visited_name` meets its contract: the two writes, one right after the other, are one write of the whole name over zeros.
use mathlib.Core.Path.{refl}
use borrow.Author.Rules.{rules}
use Rattle.octets.specs.Digits.{digits}
use Rattle.text.specs.Text.{text, digit_text}
use Rattle.octets.proofs.Parts.{then}
use Rattle.network.specs.Name.{visited_name}
use Rattle.query.proofs.Names.{named}
use Rattle.query.proofs.visited_name.Goals as goal

pub returns : goal.returns
unfolding visited_name text digit_text digits
returns c =
    named (visited_name c.args.mcc) refl (search rules) c.zero.ensures
    (then c.put_code.ensures c.copy.ensures refl)
