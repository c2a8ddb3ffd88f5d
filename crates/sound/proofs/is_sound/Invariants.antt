-- `sound::is_sound` meets its contract. The loop's invariant: what is left begins where the next record does, the records passed are free or
-- sound, and their pairs stand once and are flagged.
use Rattle.std.proofs.Common.{◌≡◌, ◌*◌, ◌≤◌, ℕ, true, drop}
use Rattle.std.specs.Slice.Iter.{chunks_exact_rest, chunks_exact_size}
use Rattle.octets.specs.Search.{all}
use Rattle.record.specs.Octets.{record_length}
use Rattle.sound.specs.Seen.{Seen}
use Rattle.table.specs.Table.{pair_once, record_count, slot_sound}
use Rattle.sound.proofs.is_sound.Given as goal

abbrev pub invariant-loop-b : goal.invariant-loop-b
invariant-loop-b l =
    (i : ℕ) × (chunks_exact_size l.b-iterator ≡ record_length) × (chunks_exact_rest l.b-iterator ≡ drop (record_length * i) l.table) × (i ≤ record_count)
    × (all i (slot_sound l.table) ≡ true) × (all i (pair_once l.table) ≡ true) × Seen l.table i l.seen
