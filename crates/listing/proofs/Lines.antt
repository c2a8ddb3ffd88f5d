-- The text of a line by the record in which it is found.
use Rattle.std.specs.Prelude.{None, Some}
use Prim.Native.Nat.{ℕ, ◌≤◌, ◌<◌}
use mathlib.Core.List.{List, []}
use mathlib.Core.Path.{◌≡◌, refl, sym, ap, ◌∙◌}
use borrow.Author.Tests.{le-ltb, lt-ltb}
use Rattle.octets.proofs.Search.{lower}
use Rattle.record.specs.Octets.{line_from}
use Rattle.table.specs.Slots.{slots_of}
use Rattle.table.specs.Table.{record_of, slot}
use Rattle.rules.specs.Call.{pair_of}
use Rattle.rules.specs.Listing.{line_text}
use Rattle.rules.specs.View.{own_line}
use Rattle.rules.proofs.Found.{line_there, none_there}
use Rattle.listing.specs.Branch.{line_in, open_text}

-- the record with a number: its line, and none past the last one
module _ (l : List ℕ) (i : ℕ) where
  none_in : 32 ≤ i → line_in l i ≡ None
  unfolding line_in
  none_in h = rw (le-ltb i 32 h)

  some_in : i < 32 → line_in l i ≡ Some (line_from (slot l i))
  unfolding line_in
  some_in h = rw (lt-ltb i 32 h)

  -- the octets b of the record
  pub some_text : (line : ℕ) → i < 32 → {b : List ℕ} → b ≡ slot l i → open_text line (line_in l i) ≡ line_text line (line_from b)
  unfolding open_text
  some_text line h e = ap (open_text line) (some_in h) ∙ ap (λ (s : List ℕ). line_text line (line_from s)) (sym e)

  pub none_text : (line : ℕ) → 32 ≤ i → open_text line (line_in l i) ≡ []
  unfolding open_text
  none_text line h = ap (open_text line) (none_in h)

-- a tenant's line is the one in the record of its pair
pub own_in : (l : List ℕ) (tenant line i : ℕ) → i ≡ record_of l (pair_of tenant line) → own_line tenant (slots_of l) line ≡ line_in l i
own_in l tenant line i found =
    lower i 32 (λ h. line_there l tenant line refl found h ∙ sym (some_in l i h)) (λ h. none_there l tenant line refl found h ∙ sym (none_in l i h))
