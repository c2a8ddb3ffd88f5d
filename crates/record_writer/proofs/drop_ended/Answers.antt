-- `record_writer::drop_ended` meets its contract: nothing is written where no hold has ended, and otherwise the holds that are left.
use borrow.Author.Rules.{rules}
use mathlib.Core.Path.{◌∙◌}
use Rattle.record.proofs.Keeping.{none_ended, some_ended}
use Rattle.record.proofs.Lines.{at_most}
use Rattle.record.proofs.Sounds.{hold_octet}
use Rattle.record_writer.proofs.drop_ended.Goals as goal

pub all_in_force-requires : goal.all_in_force-requires
all_in_force-requires c =
    (search rules, at_most c.get-n.ensures.0 (hold_octet _ c.requires.1))

pub returns-then-all_in_force : goal.returns-then-all_in_force
returns-then-all_in_force c =
    let a = c.args in
    none_ended a.b.now c.requires.1 a.time (λ i. search rules) c.requires.0
    c.get-n.ensures.0 c.all_in_force.ensures c.if-all_in_force.true

pub read_holds-held-requires : goal.read_holds-held-requires
read_holds-held-requires c =
    (search rules, at_most c.get-n.ensures.0 (hold_octet _ c.requires.1))

pub returns : goal.returns
returns c =
    let a = c.args in
    some_ended a.b.now c.requires.1 a.time (λ i. search rules) c.requires.0
    c.get-n.ensures.0 (c.as_slice.ensures ∙ c.read_holds-held.ensures) (c.as_slice-2.ensures ∙ c.in_force-standing.ensures) c.put_held.ensures
