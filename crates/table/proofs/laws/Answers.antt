-- `table::laws` meets its contract: each law is proved below proofs/.
use Rattle.table.proofs.Empty.{empty_free, empty_sound}
use Rattle.table.proofs.Lookups.{line_added, line_changed, line_dropped, line_other, open_line}
use Rattle.table.proofs.Stored.{storable, pair_once_lem, put_here, put_octets, put_others, put_slots, put_sound, written_back}
use Rattle.table.proofs.Views.{line_found_lem, open_found, room, slots_once}
use Rattle.table.proofs.laws.Goals as goal

pub returns : goal.returns
returns c = record {
  empty_sound = empty_sound;
  empty_free = empty_free;
  pair_once_lem = pair_once_lem;
  slots_once = slots_once;
  open_found = open_found;
  line_found_lem = line_found_lem;
  room = room;
  written_back = written_back;
  put_here = λ l pair s sound found fits. put_here l pair s sound found (storable s fits);
  put_others = λ l pair s sound found fits. put_others l pair s sound found (storable s fits);
  put_slots = λ l pair s sound found fits. put_slots l pair s sound found (storable s fits);
  put_sound = λ l pair s sound found fits. put_sound l pair s sound found (storable s fits);
  put_octets = put_octets;
  line_changed = line_changed;
  line_added = line_added;
  line_dropped = line_dropped;
  line_other = line_other;
  open_line = open_line;
}
