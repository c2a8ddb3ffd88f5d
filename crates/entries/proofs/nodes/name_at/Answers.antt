-- `entries::nodes::name_at` meets its contract: the name ends at a newline and has a name's length, or there is none.
use Rattle.std.proofs.Common.{◌-◌, ap, arith}
use Rattle.octets.specs.Part.{part}
use Rattle.config.specs.declared.Node.TheVariants.{Name}
use Rattle.fields.proofs.Names.{name_stands, no_end, no_length}
use Rattle.entries.proofs.nodes.name_at.Goals.{then-end-text-via-then-end-text, then-end-text-via-else-end-text+then-text-end-ne-NEWLINE}
use Rattle.entries.proofs.nodes.name_at.Goals as goal

pub returns-then-end-text : goal.returns-then-end-text
returns-then-end-text c =
    let a = c.args in
    let ends = c.name_end-end in
    elim c.then-end-text.branch [
      | then-end-text-via-then-end-text w ↦ no_end a.text.now a.start ends.result c.requires ends.ensures (λ h e. omega (arith, w.if-end-text.true))
      | then-end-text-via-else-end-text+then-text-end-ne-NEWLINE w ↦ no_end a.text.now a.start ends.result c.requires ends.ensures (λ h e. w.if-text-end-ne-NEWLINE.true e)
    ]

pub returns-then-length : goal.returns-then-length
returns-then-length c = no_length c.args.text.now c.args.start c.name_end-end.result c.requires c.name_end-end.ensures c.if-length.true

pub returns : goal.returns
returns c =
    let a = c.args in
    let ends = c.name_end-end in
    let name = name_stands a.text.now a.start ends.result c.requires ends.ensures c.if-length.false (omega (arith, ends.ensures.within, c.if-end-text.false)) c.if-text-end-ne-NEWLINE.false in
    (part a.text.now a.start (ends.result - a.start), name.0, name.1, ap (Name a.start) name.2)
