-- `records::keep_at` meets its contract: the octets of one record are those of the line that is kept.
use Rattle.record.specs.Changes.{current, in_phase}
use Rattle.records.proofs.Within.{changed_at, lent_size, lent_sound}
use Rattle.records.proofs.keep_at.Goals as goal

pub keep-requires : goal.keep-requires
keep-requires c =
    let used = c.requires in
    (lent_size _ _ used, lent_sound _ _ used)

pub returns : goal.returns
returns c =
    let a = c.args in
    let used = c.requires in
    let put = c.keep in
    changed_at a.table.now a.i (used) (λ x. in_phase (current a.time x) a.phase) _ put.ensures put.auto.b
