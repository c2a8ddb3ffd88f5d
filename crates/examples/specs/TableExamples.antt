-- Whole tables that are sound and that are not: 32 records, each free or sound, and no pair twice.
use Rattle.std.specs.Prelude.{ℕ, Bool, true, false, List, [], ◌∷◌, ◌++◌, map, ◌≡◌, refl}
use Rattle.octets.specs.Digits.{field, number, number_from}
use Rattle.octets.specs.Part.{part, same, zeros, zeros_at}
use Rattle.octets.specs.Row.{row}
use Rattle.octets.specs.Search.{all, all_of, any_of, distinct}
use Rattle.phase.specs.Chosen.{chosen}
use Rattle.phase.specs.Stage.{is_in}
use Rattle.children.specs.Children.{child_from, child_in, children_from, children_written, spis_differ}
use Rattle.holds.specs.Holds.{different, has_address, hold_from, hold_in, holds_from, holds_written}
use Rattle.phase.specs.Facts.{facts_fit, facts_from, facts_written}
use Rattle.phase.specs.Phase.{having_from, phase_fits, phase_from, phase_written}
use Rattle.record.specs.Octets.{line_from}
use Rattle.record.specs.Sound.{children_sound, chosen_free, holds_sound, in_range, is_record, line_sound, line_written}
use Rattle.table.specs.Table.{has_pair, is_table, lacks_pair, pair_at, pair_once, slot, slot_sound}

-- a table, and whether document 01 calls it sound
pub record TableExample : Type 0 where
  pub table : List ℕ
  pub sound : Bool

unfoldable pub tables : List TableExample
tables =
    record { table = zeros 7776; sound = true }
    -- a record too few, an octet too many, and a free record that is not zeros
    ∷ record { table = zeros 7533; sound = false }
    ∷ record { table = zeros 7777; sound = false }
    ∷ record { table = zeros 7775 ++ 1 ∷ []; sound = false }
    -- two pairs, and one pair twice
    ∷ record { table = zeros 7290 ++ 1 ∷ zeros 242 ++ 2 ∷ zeros 242; sound = true }
    ∷ record { table = zeros 7290 ++ 1 ∷ zeros 242 ++ 1 ∷ zeros 242; sound = false }
    ∷ []

unfoldable pub table_got : TableExample → Bool
unfolding all all_of any_of child_from child_in children_from children_sound children_written chosen chosen_free different distinct facts_fit facts_from facts_written field has_address has_pair
    having_from hold_from hold_in holds_from holds_sound holds_written in_range is_in is_record is_table lacks_pair line_from line_sound line_written number number_from pair_at
    pair_once part phase_fits phase_from phase_written row same slot slot_sound spis_differ zeros zeros_at
table_got e = is_table e.table

unfoldable pub table_said : TableExample → Bool
table_said e = e.sound

pub tables_computed : map table_got tables ≡ map table_said tables
unfolding tables table_got table_said zeros
tables_computed = refl
