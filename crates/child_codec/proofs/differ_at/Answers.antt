-- `child_codec::differ_at` meets its contract: numbers that all differ are different SPIs, and any others are compared one by one.
use Prim.Native.Nat.{ℕ, ◌+◌, ◌*◌, ◌≤◌, ◌<◌}
use mathlib.Core.Bool.{true}
use mathlib.Core.List.{List}
use mathlib.Core.Path.{◌≡◌, sym, ap, ◌∙◌}
use native.Mathlib.Omega.{arith}
use lib.ListN.{get_or}
use borrow.Author.Tests.{ne_eqb}
use Rattle.octets.specs.Digits.{field}
use Rattle.differ.proofs.Apart.{each_differs, AllDiffer}
use Rattle.octets.proofs.Rows.{row_distinct}
use Rattle.children.specs.Children.{child_from, child_in, children_from, is_spi, same_spi, spis_differ}
use Rattle.child_codec.proofs.differ_at.Goals as goal

module _ (l : List ℕ) (at n : ℕ) where
  -- one child at most
  few : n < 2 → true ≡ spis_differ (children_from l at n)
  unfolding spis_differ children_from
  few h = sym (row_distinct (child_in l at) same_spi 0 n (λ i j before within. absurd (omega arith)))

  -- no two SPIs are the same number
  apart : n ≤ 8 → (w : List ℕ) → ((i : ℕ) → i < n → get_or w i 0 ≡ field l (at + 5 * i) 4) → AllDiffer w → true ≡ spis_differ (children_from l at n)
  unfolding spis_differ children_from same_spi is_spi child_in child_from
  apart most w are differ =
      sym (row_distinct (child_in l at) same_spi 0 n
      (λ i j before within.
      ne_eqb (field l (at + 5 * i) 4) (field l (at + 5 * j) 4) (λ e. differ i j before (omega arith) (are i (omega arith) ∙ e ∙ sym (are j (omega arith))))))

pub returns-then-n-lt2 : goal.returns-then-n-lt2
returns-then-n-lt2 c = few _ _ _ c.if-n-lt2.true

pub returns-then-all_differ : goal.returns-then-all_differ
returns-then-all_differ c =
    apart _ _ _ c.requires.1 c.spis.result c.spis.ensures (each_differs _ (sym c.all_differ.ensures ∙ c.if-all_differ.true))

pub returns : goal.returns
returns c = c.are_different.ensures ∙ ap spis_differ (c.as_slice.ensures ∙ c.read_children.ensures)
