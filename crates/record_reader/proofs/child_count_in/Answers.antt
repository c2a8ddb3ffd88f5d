-- `record_reader::child_count_in` meets its contract: the count is the octet of its place.
use mathlib.Core.Path.{sym, ◌∙◌}
use Rattle.record.specs.Octets.{line_from}
use Rattle.record.proofs.Sounds.{counted_children}
use Rattle.record_reader.proofs.child_count_in.Goals as goal

pub returns : goal.returns
unfolding line_from
returns c = c.get.ensures.0 ∙ sym (counted_children _)
