-- A row of slots: what is found in it, by the number of the first slot of a pair.
use Prim.Native.Nat.{ℕ, zero, suc, ◌+◌, ◌≤◌, ◌<◌}
use mathlib.Core.Bool.{true, false}
use mathlib.Core.List.{List, ◌∷◌}
use mathlib.Core.Path.{◌≡◌, ap, ap₂, ◌∙◌}
use native.Mathlib.Omega.{arith}
use Rattle.octets.specs.Row.{row}
use Rattle.octets.specs.Search.{any_of}
use Rattle.octets.proofs.Rows.{row_fails, row_same}
use Rattle.octets.proofs.Search.{either, or_true}
use Rattle.table.specs.Slots.{Slot, is_of, is_open, slot_line, line_at, replaced}

-- a row in which no slot is of a pair
module _ (f : ℕ → Slot) (pair n : ℕ) where
  pub row_closed : ((j : ℕ) → j < n → is_of pair (f j) ≡ false) → is_open pair (row f 0 n) ≡ false
  unfolding is_open
  row_closed e = row_fails f (is_of pair) 0 n (λ j h m. e j (omega arith))

-- a row in which the slot i is the first of a pair
module _ (f : ℕ → Slot) (pair i : ℕ) (here : is_of pair (f i) ≡ true) where
  abbrev First : ℕ → Type 0
  First k = (j : ℕ) → k ≤ j → j < i → is_of pair (f j) ≡ false

  -- from one number on, by what the slot with that number is
  go_on : {P : Type 0} (k n : ℕ) → k ≤ i → i < k + suc n → First k → (k ≡ i → P) → (suc k ≤ i → i < suc k + n → First (suc k) → P) → P
  go_on k n below within first found next = either k i found (λ apart. next (omega arith) (omega arith) (λ j h m. first j (omega arith) m))

  open_from : (k n : ℕ) → k ≤ i → i < k + n → First k → is_open pair (row f k n) ≡ true
  unfolding row is_open any_of
  open_from k zero below within first = absurd (omega arith)
  open_from k (suc n) below within first =
      go_on k n below within first
      (λ e. rw (ap (λ (m : ℕ). is_of pair (f m)) e ∙ here))
      (λ b w h. or_true (is_of pair (f k)) (is_open pair (row f (suc k) n)) (open_from (suc k) n b w h))

  line_from_lem : (k n : ℕ) → k ≤ i → i < k + n → First k → line_at pair (row f k n) ≡ slot_line (f i)
  unfolding row line_at
  line_from_lem k zero below within first = absurd (omega arith)
  line_from_lem k (suc n) below within first =
      go_on k n below within first
      (λ e. rw (ap (λ (m : ℕ). is_of pair (f m)) e ∙ here) (ap (λ (m : ℕ). slot_line (f m)) e))
      (λ b w h. rw (first k (omega arith) b) (line_from_lem (suc k) n b w h))

  -- the row with another slot at i
  module _ (g : ℕ → Slot) (s : Slot) (others : (j : ℕ) → (j ≡ i → ⊥) → g j ≡ f j) (own : g i ≡ s) where
    replaced_from : (k n : ℕ) → k ≤ i → i < k + n → First k → row g k n ≡ replaced pair s (row f k n)
    unfolding row replaced
    replaced_from k zero below within first = absurd (omega arith)
    replaced_from k (suc n) below within first =
        go_on k n below within first
        (λ e. rw (ap (λ (m : ℕ). is_of pair (f m)) e ∙ here)
        (ap₂ (λ (t : Slot) (ts : List Slot). t ∷ ts) (ap g e ∙ own) (row_same f g (suc k) n (λ j h m. others j (λ q. omega arith)))))
        (λ b w h. rw (first k (omega arith) b)
        (ap₂ (λ (t : Slot) (ts : List Slot). t ∷ ts) (others k (λ q. omega arith)) (replaced_from (suc k) n b w h)))

  module _ (n : ℕ) (within : i < n) (first : (j : ℕ) → j < i → is_of pair (f j) ≡ false) where
    pub row_open : is_open pair (row f 0 n) ≡ true
    row_open = open_from 0 n (omega arith) (omega arith) (λ j h m. first j m)

    pub row_line : line_at pair (row f 0 n) ≡ slot_line (f i)
    row_line = line_from_lem 0 n (omega arith) (omega arith) (λ j h m. first j m)

    pub row_replaced : (g : ℕ → Slot) (s : Slot) → ((j : ℕ) → (j ≡ i → ⊥) → g j ≡ f j) → g i ≡ s → row g 0 n ≡ replaced pair s (row f 0 n)
    row_replaced g s others own = replaced_from g s others own 0 n (omega arith) (omega arith) (λ j h m. first j m)
