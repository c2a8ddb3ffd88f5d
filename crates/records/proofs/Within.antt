-- A record of the table that is changed where it lies.
use Prim.Native.Nat.{ℕ, ◌+◌, ◌-◌, ◌*◌, ◌≤◌}
use mathlib.Core.Bool.{true}
use mathlib.Core.List.{List}
use mathlib.Core.Path.{◌≡◌, sym, ap, ◌∙◌, subst}
use native.Mathlib.Omega.{arith}
use lib.ListN.{length}
use borrow.Rule.Slice.PartMut.{mid_of, mid_len, put_mid}
use Rattle.octets.specs.Digits.{field}
use Rattle.octets.specs.Part.{part, Wrote}
use Rattle.octets.proofs.Patches.{part_stored}
use Rattle.phase.specs.Standing.{Continues, restored}
use Rattle.phase.specs.declared.Standing.{Standing}
use Rattle.record.specs.Changes.{Goes, current, in_phase}
use Rattle.record.specs.Line.{Line}
use Rattle.record.specs.Octets.{child_count_place, line_from, record_length, record_octets}
use Rattle.record.specs.Sound.{is_record}
use Rattle.record.proofs.Sounds.{counted_children}
use Rattle.records.specs.Stores.{GoesAt}
use Rattle.table.specs.Table.{slot, UsedAt}

module _ (l : List ℕ) (i : ℕ) where
  abbrev at : ℕ
  at = record_length * i

  -- the octets that are lent are those of the record
  abbrev pub lent : List ℕ
  lent = mid_of at (at + record_length - at) l

  pub lent_is : lent ≡ slot l i
  unfolding slot part
  lent_is =
      let all : at + record_length - at ≡ record_length = omega arith in
      ap (λ (k : ℕ). mid_of at k l) all

  -- its count of children
  pub lent_children : field lent child_count_place 1 ≡ length (line_from (slot l i)).children
  unfolding line_from
  lent_children = sym (counted_children lent) ∙ ap (λ (s : List ℕ). length (line_from s).children) lent_is

  pub lent_whole : at + record_length ≤ length l → length lent ≡ record_length
  lent_whole within =
      let all : at + record_length - at ≡ record_length = omega arith in
      mid_len at (at + record_length) l within ∙ all

  module _ (used : UsedAt l i) where
    pub lent_size : length lent ≡ record_length
    lent_size = lent_whole used.0

    pub lent_sound : is_record lent ≡ true
    lent_sound = ap is_record lent_is ∙ used.1

    -- a record whose line is changed
    pub changed_at : (f : Line → Line) (new : List ℕ) → new ≡ record_octets (field lent 0 1) (f (line_from lent)) → length new ≡ length lent
        → Wrote l at (record_octets (field (slot l i) 0 1) (f (line_from (slot l i)))) (put_mid at (at + record_length - at) l new)
    changed_at f new is kept =
        part_stored l at record_length used.0 new _ (is ∙ ap (λ (s : List ℕ). record_octets (field s 0 1) (f (line_from s))) lent_is) kept

    -- a record whose line goes on to another phase
    pub goes_at : (t : ℕ) (s : Standing) (f : Line → Line) (new : List ℕ) → Goes lent t s new f → length new ≡ length lent → GoesAt l i t s (put_mid at (at + record_length - at) l new) f
    goes_at t s f new goes kept q continues stands =
        changed_at (λ x. f (in_phase (current t x) (restored x.phase q))) new (goes q (subst (λ (r : List ℕ). Continues (line_from r).phase q) (sym lent_is) continues) stands) kept
