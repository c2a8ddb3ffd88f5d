-- When a record is sound (document 01, 'The table and who sits in it'), one condition after another.
use Rattle.std.specs.Prelude.{ℕ, suc, ◌-◌, ◌*◌, Bool, true, not, ◌&&◌, ◌||◌, List, leb, length, Option, None, Some}
use Rattle.octets.specs.Digits.{field}
use Rattle.octets.specs.Search.{all_of}
use Rattle.address.specs.Address.{held_addresses, most_holds, stands}
use Rattle.address.specs.declared.Address.{Address}
use Rattle.address.specs.declared.Hold.{Hold}
use Rattle.children.specs.declared.Child.{Child}
use Rattle.children.specs.Children.{child_fits, children_written, most_children, spis_differ}
use Rattle.holds.specs.Holds.{different, ends_after, holds_written}
use Rattle.phase.specs.Chosen.{chosen}
use Rattle.phase.specs.Phase.{phase_fits, phase_written}
use Rattle.phase.specs.Stage.{is_in}
use Rattle.phase.specs.Stage as Stage
use Rattle.phase.specs.declared.Phase.{Phase}
use Rattle.record.specs.Line.{Line}
use Rattle.record.specs.Octets.{child_count_place, children_place, hold_count_place, holds_place, line_from, phase_place}

-- every field in its range
unfoldable pub in_range : Phase → List Child → Bool
in_range p cs = phase_fits p && all_of child_fits cs

-- at most 8 child associations, only on a live line, with different SPIs
unfoldable pub children_sound : Phase → List Child → Bool
children_sound p cs = leb (length cs) most_children && (is_in Stage.live p || leb (length cs) 0) && spis_differ cs

-- none of the holds is the chosen one
unfoldable pub chosen_free : Option Address → List Address → Bool
chosen_free None held = true
chosen_free (Some a) held = not (stands a held)

-- a line that is not idle has room for one hold more
abbrev pub most_busy_holds : ℕ
most_busy_holds = most_holds - 1

-- at most 8 holds, at most 7 unless the line is idle, for different addresses, none of them the chosen one, each ending after the last time
unfoldable pub holds_sound : ℕ → Phase → List Hold → Bool
holds_sound time p hs =
    leb (length hs) most_holds && (is_in Stage.idle p || leb (length hs) most_busy_holds) && different (held_addresses hs) && chosen_free (chosen p) (held_addresses hs)
    && all_of (ends_after time) hs

unfoldable pub line_sound : Line → Bool
line_sound x = in_range x.phase x.children && children_sound x.phase x.children && holds_sound x.time x.phase x.holds

-- unused places zero
unfoldable pub line_written : List ℕ → Bool
line_written l = phase_written l phase_place && holds_written l holds_place (field l hold_count_place 1) && children_written l children_place (field l child_count_place 1)

-- the highest tenant, the highest line of a tenant, and how many pairs of both there are
abbrev pub last_tenant : ℕ
last_tenant = 15

abbrev pub last_line : ℕ
last_line = 3

abbrev pub most_pairs : ℕ
most_pairs = suc last_tenant * suc last_line

-- a record of one of the pairs
unfoldable pub is_record : List ℕ → Bool
is_record l = leb 1 (field l 0 1) && leb (field l 0 1) most_pairs && line_written l && line_sound (line_from l)
