-- The listing of one tenant of a table.
use Rattle.std.specs.Prelude.{ℕ, List}
use Rattle.table.specs.Slots.{slots_of}
use Rattle.rules.specs.Listing.{list_from}
use Rattle.rules.specs.View.{own_lines}

-- the texts of the tenant's open lines, from its first line to its last
unfoldable pub listing_of : ℕ → List ℕ → List ℕ
listing_of tenant l = list_from 0 (own_lines tenant (slots_of l))
