-- `records::time_at` meets its contract: the time stands behind the pair in the record's octets.
use mathlib.Core.Path.{sym, ◌∙◌}
use native.Mathlib.Omega.{arith}
use Rattle.octets.proofs.Splices.{field_part}
use Rattle.record.specs.Octets.{line_from, record_length, time_place}
use Rattle.table.specs.Table.{slot}
use Rattle.records.proofs.time_at.Goals as goal

pub returns : goal.returns
unfolding line_from slot
returns c = c.get.ensures.0 ∙ sym (field_part _ _ record_length time_place 4 (omega arith))
