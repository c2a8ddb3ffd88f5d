-- `setup::finish` meets its contract: what is decided is stored and returned.
use mathlib.Core.Path.{sym, ap, ◌∙◌}
use Rattle.record.specs.Changes.{current}
use Rattle.record.specs.Line.{Line}
use Rattle.record.specs.Octets.{line_from}
use Rattle.table.specs.Table.{slot}
use Rattle.step.specs.Laws.{stored_by}
use Rattle.frame.proofs.Stores.{stored}
use Rattle.setup.proofs.finish.Goals as goal

pub returns : goal.returns
returns c =
    let a = c.args in
    let s = c.decided-moved.ensures (current a.time (line_from (slot a.table.now a.entered.at))) c.is_choice_held-held.ensures in
    record {
      action_is = s.action_is;
      part_is = s.part_is;
      part_within = s.part_within;
      name_is = s.name_is;
      table_is = stored a.entered a.table.now c.requires.0 _ c.keep_at.ensures ∙ ap (λ (x : Line). stored_by 0 a.entered.pair x a.table.now) (sym s.line_is);
    }
