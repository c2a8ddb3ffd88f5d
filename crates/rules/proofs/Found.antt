-- The record in which a tenant's line is found.
use Rattle.std.specs.Prelude.{None, Some}
use Prim.Native.Nat.{ℕ, ◌≤◌, ◌<◌}
use mathlib.Core.Bool.{true}
use mathlib.Core.List.{List}
use mathlib.Core.Path.{◌≡◌, sym, ap, ◌∙◌, subst}
use native.Mathlib.Omega.{arith}
use borrow.Author.Tests.{le-ltb}
use Rattle.record.specs.Octets.{line_from}
use Rattle.record.specs.Sound.{is_record}
use Rattle.table.specs.Slots.{slots_of}
use Rattle.table.specs.Table.{is_table, record_of, slot}
use Rattle.table.proofs.Lookups.{closed_line}
use Rattle.table.proofs.Views.{line_found_lem, open_found}
use Rattle.rules.specs.Call.{pair_of}
use Rattle.rules.specs.View.{own_line}
use Rattle.rules.proofs.Accepted.{used_record}

-- the record i of the table is the first with the line's pair
module _ (l : List ℕ) (tenant line : ℕ) {pair i : ℕ} (numbered : pair ≡ pair_of tenant line) (found : i ≡ record_of l pair) where
  abbrev p : ℕ
  p = pair_of tenant line

  pub place : record_of l p ≡ i
  place = sym (found ∙ ap (record_of l) numbered)

  pub none_there : 32 ≤ i → own_line tenant (slots_of l) line ≡ None
  unfolding own_line
  none_there h = closed_line p (slots_of l) (open_found l p ∙ le-ltb (record_of l p) 32 (omega (arith, place)))

  module _ (within : i < 32) where
    pub line_there : own_line tenant (slots_of l) line ≡ Some (line_from (slot l i))
    unfolding own_line pair_of
    line_there = line_found_lem l p (omega (arith, place)) (omega arith) ∙ ap (λ (k : ℕ). Some (line_from (slot l k))) place

    pub record_there : is_table l ≡ true → is_record (slot l i) ≡ true
    unfolding own_line pair_of
    record_there sound = subst (λ (k : ℕ). is_record (slot l k) ≡ true) place (used_record l sound p (omega arith) (line_from (slot l i)) line_there)
