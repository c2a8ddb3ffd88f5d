-- The records of a tenant's lines, searched from the last record down to the first.
use Prim.Native.Nat.{ℕ, ◌+◌, ◌-◌, ◌/◌, ◌%◌, ◌≤◌, ◌<◌}
use mathlib.Core.Bool.{Bool, true, false, true≢false}
use mathlib.Core.List.{List}
use mathlib.Core.Path.{◌≡◌, sym, ap, ◌∙◌, subst}
use native.Mathlib.Omega.{arith}
use lib.ListN.{length, get_or, get_or-replicate, replicate, set}
use lib.Seq.{get_or-set_other, get_or-set_same}
use borrow.Author.Tests.{eq-eqb, ne_eqb}
use Rattle.octets.specs.Search.{least}
use Rattle.octets.proofs.Search.{either, least_bound, least_found, least_passes, lower}
use Rattle.table.specs.Table.{has_pair, pair_at, record_of}
use Rattle.rules.specs.Call.{pair_of}

-- k is the first number from i on and below n that passes, or n where none does
pub record FirstFrom (p : ℕ → Bool) (n i k : ℕ) : Type 0 where
  pub within : k ≤ n
  pub passes : k < n → p k ≡ true
  pub none_before : (j : ℕ) → i ≤ j → j < k → p j ≡ false

module _ {p : ℕ → Bool} {n : ℕ} where
  -- no number was searched yet
  first_none : FirstFrom p n n n
  first_none = record { within = omega arith; passes = λ h. absurd (omega arith); none_before = λ j a b. absurd (omega arith) }

  -- the number before them passes
  first_here : (i : ℕ) → i < n → p i ≡ true → FirstFrom p n i i
  first_here i h e = record { within = omega arith; passes = λ _. e; none_before = λ j a b. absurd (omega arith) }

  -- the number before them fails
  first_less : {i k : ℕ} → FirstFrom p n i k → p (i - 1) ≡ false → FirstFrom p n (i - 1) k
  first_less {i} {k} f e = record {
    within = f.within;
    passes = f.passes;
    none_before = λ j a b. either j (i - 1) (λ q. ap p q ∙ e) (λ apart. f.none_before j (omega arith) b);
  }

  -- all were searched
  first_least : {k : ℕ} → FirstFrom p n 0 k → least n p ≡ k
  first_least {k} f =
      let none : least k p ≡ k =
      lower (least k p) k (λ h. absurd (true≢false (sym (least_passes k p h) ∙ f.none_before (least k p) (omega arith) h)))
      (λ h. omega (arith, least_bound k p)) in
      let bound : k ≤ n = f.within in
      lower k n (λ h. least_found n p k none (f.passes h) h) (λ h. subst (λ (m : ℕ). least m p ≡ k) (omega arith) none)

-- the records of a tenant's lines among those from the record i on
abbrev pub Found : List ℕ → ℕ → ℕ → List ℕ → Type 0
Found l tenant i found = (line : ℕ) → line < 4 → FirstFrom (has_pair l (pair_of tenant line)) 32 i (get_or found line 0)

-- no record was searched yet
pub found_none : (l : List ℕ) (tenant : ℕ) → Found l tenant 32 (replicate 4 32)
found_none l tenant line h = subst (FirstFrom (has_pair l (pair_of tenant line)) 32 32) (sym (get_or-replicate 4 line 32 0 h)) first_none

-- the pair k of the record before them
module _ (l : List ℕ) (tenant i k : ℕ) (read : k ≡ pair_at l (i - 1)) where
  -- it is the tenant's own
  module _ (own : (k + 4 - 1) / 4 ≡ tenant + 1) where
    own_line_lem : has_pair l (pair_of tenant ((k + 4 - 1) % 4)) (i - 1) ≡ true
    unfolding has_pair pair_of
    own_line_lem = eq-eqb (pair_at l (i - 1)) _ (omega (arith, read, own))

    other_line : (line : ℕ) → line < 4 → (line ≡ (k + 4 - 1) % 4 → ⊥) → has_pair l (pair_of tenant line) (i - 1) ≡ false
    unfolding has_pair pair_of
    other_line line h apart = ne_eqb (pair_at l (i - 1)) _ (λ e. apart (omega (arith, read, own, e)))

    pub found_own : (found : List ℕ) → length found ≡ 4 → 0 < i → i ≤ 32 → Found l tenant i found → Found l tenant (i - 1) (set found ((k + 4 - 1) % 4) (i - 1))
    found_own found size some_left bound f line h =
        let place = (k + 4 - 1) % 4 in
        let in_place : place < length found = omega (arith, size) in
        either line place
        (λ e. rw (e, get_or-set_same found place (i - 1) 0 in_place) (first_here (i - 1) (omega arith) own_line_lem))
        (λ apart. rw (get_or-set_other found place line (i - 1) 0 apart) (first_less (f line h) (other_line line h apart)))

  -- it is another tenant's, or the record is free
  pub found_other : ((k + 4 - 1) / 4 ≡ tenant + 1 → ⊥) → (found : List ℕ) → Found l tenant i found → Found l tenant (i - 1) found
  unfolding has_pair pair_of
  found_other foreign found f line h = first_less (f line h) (ne_eqb (pair_at l (i - 1)) _ (λ e. foreign (omega (arith, read, e))))

-- where none is left, these are the records of the lines
pub found_all : (l : List ℕ) (tenant i : ℕ) (found : List ℕ) → i ≤ 0 → Found l tenant i found → (line : ℕ) → line < 4 → get_or found line 0 ≡ record_of l (pair_of tenant line)
unfolding record_of
found_all l tenant i found done f line h =
    sym (first_least (subst (λ (j : ℕ). FirstFrom (has_pair l (pair_of tenant line)) 32 j (get_or found line 0)) (omega arith) (f line h)))
