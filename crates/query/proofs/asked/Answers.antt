-- `query::asked` meets its contract: the choice picks the slice.
use mathlib.Core.Path.{sym, ap, ◌∙◌, subst}
use Rattle.selection.specs.Query.{asked, TextWithin}
use Rattle.query.proofs.Names.{asked_built, name_fits, name_part}
use Rattle.query.proofs.asked.Goals as goal

pub part-requires : goal.part-requires
part-requires c = subst (TextWithin c.args.text.now) c.in-Text.is c.requires.in_text

pub part-requires-in_default : goal.part-requires-in_default
part-requires-in_default c = name_fits _ _ _ c.requires.in_name

pub returns-in-Text : goal.returns-in-Text
unfolding asked
returns-in-Text c =
    let a = c.args in
    c.part.ensures.0 ∙ sym (ap (asked a.text.now) c.in-Text.is)

pub returns-in_default : goal.returns-in_default
returns-in_default c =
    c.part-in_default.ensures.0 ∙ name_part _ _ _ c.requires.in_name ∙ asked_built _ _ c.in_default.not-Text
