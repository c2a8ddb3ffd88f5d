-- The laws of networks in a list, and of the best record.
use Rattle.std.specs.Prelude.{Option, None, Some}
use Prim.Native.Nat.{ℕ, zero, suc, ◌+◌, ◌-◌, ◌/◌, ◌≤◌, ◌<◌}
use mathlib.Core.Bool.{Bool, true, false, ◌||◌}
use mathlib.Core.List.{List, [], ◌∷◌}
use mathlib.Core.Path.{◌≡◌, refl, sym, ap, ◌∙◌}
use native.Mathlib.Numerals.{add-one}
use native.Mathlib.Omega.{arith}
use lib.Dec.{leb}
use lib.ListN.{length, get_or, drop, drop_of_length-le}
use lib.Seq.{drop-cons}
use borrow.Author.Tests.{le-leb, lt-leb, leb-true, leb-false}
use Rattle.octets.specs.Row.{first, keep, only, row}
use Rattle.octets.specs.Search.{any_of}
use Rattle.octets.proofs.Rows.{row_fails}
use Rattle.octets.proofs.Search.{either, or_true}
use Rattle.network.specs.Plmn.{among, same_plmn}
use Rattle.network.specs.declared.Plmn.{Plmn}
use Rattle.lists.specs.Lists.{network_at, networks_in}
use Rattle.entry.specs.declared.field.Preferred.{Preferred}
use Rattle.preference.specs.Preference.{best, better, visited, offered}
use Rattle.ranking.specs.Branch.{best_of}
use Rattle.place.specs.declared.Place.{Place}

-- a value of a row passes
row_has : {A : Type 0} (f : ℕ → A) (p : A → Bool) (k n i : ℕ) → k ≤ i → i < k + n → p (f i) ≡ true → any_of p (row f k n) ≡ true
unfolding row any_of
row_has f p k zero i h less e = absurd (omega arith)
row_has f p k (suc n) i h less e =
    either i k (λ q. ap (λ (t : Bool). t || any_of p (row f (suc k) n)) (ap (λ (j : ℕ). p (f j)) (sym q) ∙ e))
    (λ q. or_true (p (f k)) (any_of p (row f (suc k) n)) (row_has f p (suc k) n i (omega arith) (omega arith) e))

module _ {A : Type 0} (f : ℕ → A) (q : A → Bool) where
  -- no value of a row passes
  first_past : (k n : ℕ) → ((i : ℕ) → k ≤ i → i < k + n → q (f i) ≡ false) → first q (row f k n) ≡ None
  unfolding first row
  first_past k zero none = refl
  first_past k (suc n) none = rw (none k (omega arith) (omega arith)) (first_past (suc k) n (λ i h less. none i (omega arith) (omega arith)))

  -- the value at i passes, and none before it
  first_at : (k n i : ℕ) (a : A) → k ≤ i → i < k + n → f i ≡ a → q a ≡ true → ((j : ℕ) → k ≤ j → j < i → q (f j) ≡ false) → first q (row f k n) ≡ Some a
  unfolding first row
  first_at k zero i a h less is passes none = absurd (omega arith)
  first_at k (suc n) i a h less is passes none =
      either i k
      (λ e.
      let same : f k ≡ a = ap f (sym e) ∙ is in
      rw (same, passes))
      (λ e. rw (none k (omega arith) (omega arith)) (first_at (suc k) n i a (omega arith) (omega arith) is passes (λ j g below. none j (omega arith) below)))

-- a list has networks exactly if it has four octets
module _ (l : List ℕ) where
  pub no_network : length l < 4 → networks_in l ≡ []
  unfolding networks_in row
  no_network h =
      let few : length l / 4 ≡ 0 = omega arith in
      rw few

  pub some_network : 4 ≤ length l → (q : Plmn) × (qs : List Plmn) × (networks_in l ≡ q ∷ qs)
  unfolding networks_in row
  some_network h =
      let more : length l / 4 ≡ suc (length l / 4 - 1) = omega arith in
      (network_at l 0, row (network_at l) 1 (length l / 4 - 1), ap (row (network_at l) 0) more)

  module _ (place : Place) (p : Plmn) where
    pub offers_visited : length l < 4 → visited place p ≡ offered (networks_in l) place p
    unfolding offered
    offers_visited h = sym (rw (no_network h))

    pub offers_listed : 4 ≤ length l → among p (networks_in l) ≡ offered (networks_in l) place p
    unfolding offered
    offers_listed h = rw (some_network h).2

-- a PLMN stands in a row exactly where it is one of its values
pub among_row : (f : ℕ → Plmn) (p : Plmn) (n : ℕ) (r : Bool) → (r ≡ true → (i : ℕ) × (i < n) × (same_plmn p (f i) ≡ true))
    → (r ≡ false → (i : ℕ) → i < n → same_plmn p (f i) ≡ false) → r ≡ among p (row f 0 n)
unfolding among
among_row f p n true some none =
    let there = some refl in
    sym (row_has f (same_plmn p) 0 n there.0 (omega arith) (omega (arith, there.1)) there.2)
among_row f p n false some none = sym (row_fails f (same_plmn p) 0 n (λ i h less. none refl i (omega arith)))

-- the first value of a row that passes
pub first_row : {A : Type 0} (f : ℕ → A) (q : A → Bool) (n : ℕ) (r : Option A) → (r ≡ None → (i : ℕ) → i < n → q (f i) ≡ false)
    → ((a : A) → r ≡ Some a → (i : ℕ) × (i < n) × (f i ≡ a) × (q a ≡ true) × ((j : ℕ) → j < i → q (f j) ≡ false)) → r ≡ first q (row f 0 n)
first_row f q n None none some = sym (first_past f q 0 n (λ i h less. none refl i (omega arith)))
first_row f q n (Some a) none some =
    let there = some a refl in
    sym (first_at f q 0 n there.0 a (omega arith) (omega (arith, there.1)) there.2 there.3 (λ j h less. there.4 j less))

-- of two records the better one
module _ (x y : Preferred) where
  pub stays : x.priority ≤ y.priority → Some x ≡ best_of (Some x) (Some y)
  unfolding best_of better
  stays h = sym (rw (le-leb x.priority y.priority h))

  pub gives_way : y.priority < x.priority → Some y ≡ best_of (Some x) (Some y)
  unfolding best_of better
  gives_way h = sym (rw (lt-leb x.priority y.priority h))

-- the better of two records before the best of those behind
module _ (x y z : Preferred) where
  better_both : better (better x (Some y)) (Some z) ≡ better x (Some (better y (Some z)))
  unfolding better
  better_both = go (leb x.priority y.priority) refl (leb y.priority z.priority) refl
    where
      go : (s : Bool) → leb x.priority y.priority ≡ s → (t : Bool) → leb y.priority z.priority ≡ t
          → better (better x (Some y)) (Some z) ≡ better x (Some (better y (Some z)))
      go true e true f =
          let first : leb x.priority z.priority ≡ true = le-leb x.priority z.priority (omega (arith, leb-true x.priority y.priority e, leb-true y.priority z.priority f)) in
          simp (e, f, first)
      go true e false f = simp (e, f)
      go false e true f = simp (e, f)
      go false e false f =
          let last : leb x.priority z.priority ≡ false = lt-leb x.priority z.priority (omega (arith, leb-false x.priority y.priority e, leb-false y.priority z.priority f)) in
          simp (e, f, last)

best_of_both : (o : Option Preferred) (y : Preferred) (later : Option Preferred) → best_of (best_of o (Some y)) later ≡ best_of o (Some (better y later))
unfolding best_of better
best_of_both None y later = refl
best_of_both (Some x) y None = refl
best_of_both (Some x) y (Some z) = ap Some (better_both x y z)

-- the best of the records from i on, of those that pass
module _ (p : Preferred → Bool) (l : List Preferred) (i : ℕ) where
  -- none is left
  pub best_alone : length l ≤ i → (o : Option Preferred) → best_of o (best (only p (drop i l))) ≡ o
  unfolding best_of best better only
  best_alone h None = rw (drop_of_length-le l h)
  best_alone h (Some x) = rw (drop_of_length-le l h)

  module _ (d : Preferred) (inside : i < length l) where
    split : (t : Bool) → p (get_or l i d) ≡ t → only p (drop i l) ≡ keep t (get_or l i d) (only p (drop (i + 1) l))
    unfolding only
    split t e = rw (drop-cons l i d inside, add-one, e)

    module _ (o : Option Preferred) where
      -- the one at i passes
      pub best_more : p (get_or l i d) ≡ true → best_of (best_of o (Some (get_or l i d))) (best (only p (drop (i + 1) l))) ≡ best_of o (best (only p (drop i l)))
      unfolding best keep
      best_more e = best_of_both o (get_or l i d) (best (only p (drop (i + 1) l))) ∙ sym (rw (split true e))

      -- it does not
      pub best_same : p (get_or l i d) ≡ false → best_of o (best (only p (drop (i + 1) l))) ≡ best_of o (best (only p (drop i l)))
      unfolding keep
      best_same e = sym (rw (split false e))
