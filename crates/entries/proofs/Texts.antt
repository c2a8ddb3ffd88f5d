-- The end of a text: no entry follows it, and one follows each place before it.
use Prim.Native.Nat.{ℕ, ◌≤◌}
use mathlib.Core.Bool.{false}
use mathlib.Core.List.{List, [], ◌∷◌}
use mathlib.Core.Path.{◌≡◌, ap}
use native.Mathlib.Omega.{arith}
use lib.ListN.{length, drop, drop_of_length-le, length-drop}
use Rattle.entry.specs.Pieces.{pieces}
use Rattle.fields.proofs.Joins.{begins, some_piece}
use Rattle.config.specs.Lines.{last_entry, entries, entries_from}
use Rattle.config.specs.Settings.{is_end}

module _ (l : List ℕ) (at : ℕ) where
  -- nothing is left at the end
  pub at_end : at ≡ length l → entries_from l at ≡ []
  unfolding entries_from entries last_entry pieces
  at_end e =
      let all : length l ≤ at = omega arith in
      ap (λ (m : List ℕ). entries (pieces 10 m)) (drop_of_length-le l all)

  -- before the end of a text its end is not reached
  pub not_end : at ≤ length l → (at ≡ length l → ⊥) → is_end (entries_from l at) ≡ false
  unfolding is_end entries_from entries last_entry
  not_end inside h = let s = some_piece 10 (drop at l) in go s.0 s.1 s.2
    where
      go : (p : List ℕ) (ps : List (List ℕ)) → pieces 10 (drop at l) ≡ p ∷ ps → is_end (entries (pieces 10 (drop at l))) ≡ false
      go [] [] f = absurd (h (omega (arith, ap length (begins 10 (drop at l) [] [] f), length-drop at l)))
      go (c ∷ p) [] f = rw f
      go p (q ∷ qs) f = rw f
