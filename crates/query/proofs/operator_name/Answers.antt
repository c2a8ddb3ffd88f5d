-- `query::operator_name` meets its contract: each write begins where the one before it ends, so that all of them are one write of
-- the whole name over zeros.
use mathlib.Core.Path.{refl}
use borrow.Author.Rules.{rules}
use Rattle.octets.specs.Digits.{digits}
use Rattle.text.specs.Text.{text, digit_text}
use Rattle.octets.proofs.Parts.{then}
use Rattle.network.specs.Name.{operator_name}
use Rattle.query.proofs.Names.{named}
use Rattle.query.proofs.operator_name.Goals as goal

pub returns : goal.returns
unfolding operator_name text digit_text digits
returns c =
    named (operator_name c.args.plmn) refl (search rules) c.zero.ensures
    (then (then c.put_code.ensures c.put_code-2.ensures refl) c.copy.ensures refl)
