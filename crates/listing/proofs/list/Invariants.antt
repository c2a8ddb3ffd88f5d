-- `listing::list` meets its contract. The loop's invariant: the texts of the lines that are left make the whole.
use Prim.Native.Nat.{◌-◌}
use Rattle.octets.specs.Row.{row}
use Rattle.table.specs.Slots.{slots_of}
use Rattle.rules.specs.Listing.{list_from}
use Rattle.rules.specs.View.{own_line}
use Rattle.listing.specs.Listed.{listing_of}
use Rattle.listing_field.proofs.Puts.{Left}
use Rattle.listing.proofs.list.Given as goal

abbrev pub invariant-loop-line : goal.invariant-loop-line
invariant-loop-line l = Left l.buffer l.at (list_from l.line (row (own_line l.tenant (slots_of l.table)) l.line (4 - l.line))) l.initial.buffer 0 (listing_of l.tenant l.table)
