-- A slot is free exactly where fewer pairs are open than there are slots.
use Prim.Native.Nat.{ℕ, zero, suc, ◌+◌, ◌≤◌, ◌<◌}
use mathlib.Core.Bool.{Bool, true, false, not, ◌||◌}
use mathlib.Core.List.{List, [], ◌∷◌}
use mathlib.Core.Path.{◌≡◌, refl, sym, ap, ◌∙◌}
use native.Mathlib.Omega.{arith}
use lib.Dec.{leb, ltb}
use lib.ListN.{length}
use borrow.Author.Tests.{eq-eqb, ne_eqb, leb-true, lt-ltb, le-ltb, not-true}
use Rattle.octets.specs.Row.{keep, only}
use Rattle.octets.specs.Search.{all_of, any_of, distinct}
use Rattle.octets.proofs.Counts.{count_same, count_none, count_more}
use Rattle.octets.proofs.Search.{and_left, and_right}
use Rattle.table.specs.Slots.{Slot, pair_in, is_of, is_open, is_taken, open_pairs, pairs_once, same_pair}
use Rattle.table.proofs.Lookups.{alike_open}

-- a slot is free or of one of the 64 pairs
unfoldable pub is_paired : Slot → Bool
is_paired s = leb (pair_in s) 64

-- how many slots are free
abbrev free : List Slot → ℕ
free ss = length (only (is_of 0) ss)

module _ (s : Slot) (ss : List Slot) where
  abbrev free_with : Bool → ℕ
  free_with b = length (keep b s (only (is_of 0) ss))

  -- one free slot more
  count_free : pair_in s ≡ 0 → (open_pairs (s ∷ ss) ≡ open_pairs ss) × (free (s ∷ ss) ≡ suc (free ss))
  unfolding open_pairs is_taken is_open any_of is_of only keep
  count_free e =
      (count_same 64 (is_taken (s ∷ ss)) (is_taken ss) (λ k h. ap (λ (b : Bool). b || is_open (suc k) ss) (ne_eqb (pair_in s) (suc k) (λ q. omega arith))), ap free_with (eq-eqb (pair_in s) 0 e))

  -- one open pair more
  count_used : (k : ℕ) → pair_in s ≡ suc k → k < 64 → is_open (suc k) ss ≡ false → (open_pairs (s ∷ ss) ≡ suc (open_pairs ss)) × (free (s ∷ ss) ≡ free ss)
  unfolding open_pairs is_taken is_open any_of is_of only keep
  count_used k e h new =
      (count_more (is_taken ss) (is_taken (s ∷ ss)) k new (ap (λ (b : Bool). b || is_open (suc k) ss) (eq-eqb (pair_in s) (suc k) e)) (λ j apart. sym (ap (λ (b : Bool). b || is_open (suc j) ss) (ne_eqb (pair_in s) (suc j) (λ q. apart (omega arith))))) 64 h, ap free_with (ne_eqb (pair_in s) 0 (λ q. omega arith)))

none_open : open_pairs [] + free [] ≡ 0
unfolding open_pairs is_taken is_open any_of only
none_open = ap (λ (k : ℕ). k + 0) (count_none 64 (is_taken []) (λ k h. refl))

pub counted : (ss : List Slot) → pairs_once ss ≡ true → all_of is_paired ss ≡ true → open_pairs ss + free ss ≡ length ss
unfolding pairs_once distinct all_of is_paired
counted [] once paired = none_open
counted (s ∷ ss) once paired =
    let rest = counted ss (and_right (not (any_of (same_pair s) ss)) (pairs_once ss) once) (and_right (is_paired s) (all_of is_paired ss) paired) in
    go (pair_in s) refl rest
  where
    go : (n : ℕ) → pair_in s ≡ n → open_pairs ss + free ss ≡ length ss → open_pairs (s ∷ ss) + free (s ∷ ss) ≡ suc (length ss)
    go zero e rest = let more = count_free s ss e in omega (arith, more.0, more.1, rest)
    go (suc k) e rest =
        let high : pair_in s ≤ 64 = leb-true (pair_in s) 64 (and_left (is_paired s) (all_of is_paired ss) paired) in
        let new : is_open (suc k) ss ≡ false = sym (alike_open (suc k) (omega arith) s e ss) ∙ not-true (any_of (same_pair s) ss) (and_left (not (any_of (same_pair s) ss)) (pairs_once ss) once) in
        let more = count_used s ss k e (omega arith) new in
        omega (arith, more.0, more.1, rest)

-- some slot is free exactly where their number isn't 0
some_free : (ss : List Slot) → is_open 0 ss ≡ ltb 0 (free ss)
unfolding is_open any_of only keep
some_free [] = refl
some_free (s ∷ ss) = go (is_of 0 s) (some_free ss)
  where
    go : (b : Bool) → is_open 0 ss ≡ ltb 0 (free ss) → b || is_open 0 ss ≡ ltb 0 (length (keep b s (only (is_of 0) ss)))
    go true rest = sym (lt-ltb 0 (suc (free ss)) (omega arith))
    go false rest = rest

pub has_room : (ss : List Slot) → pairs_once ss ≡ true → all_of is_paired ss ≡ true → is_open 0 ss ≡ ltb (open_pairs ss) (length ss)
has_room ss once paired = some_free ss ∙ go (free ss) refl
  where
    go : (n : ℕ) → free ss ≡ n → ltb 0 (free ss) ≡ ltb (open_pairs ss) (length ss)
    go zero e = le-ltb 0 (free ss) (omega arith) ∙ sym (le-ltb (open_pairs ss) (length ss) (omega (arith, counted ss once paired)))
    go (suc n) e = lt-ltb 0 (free ss) (omega arith) ∙ sym (lt-ltb (open_pairs ss) (length ss) (omega (arith, counted ss once paired)))
