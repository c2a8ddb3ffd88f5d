-- Where a slot is replaced: the lines that are found afterwards.
use Rattle.std.specs.Prelude.{None, is_some}
use Prim.Native.Nat.{ℕ, ◌≤◌}
use mathlib.Core.Bool.{Bool, true, false, cond, not, ◌&&◌, ◌||◌, false≢true}
use mathlib.Core.List.{List, [], ◌∷◌}
use mathlib.Core.Path.{◌≡◌, refl, sym, ap, ◌∙◌}
use native.Mathlib.Omega.{arith}
use lib.Dec.{leb}
use borrow.Author.Tests.{eqb-true, eq-eqb, ne_eqb, le-leb, not-true}
use Rattle.octets.specs.Search.{any_of, distinct}
use Rattle.octets.proofs.Search.{and_left, and_right, or_left, or_right}
use Rattle.table.specs.Slots.{Slot, Free, Used, pair_in, is_of, is_open, slot_line, line_at, same_pair, pairs_once, replaced}

-- a slot of a pair has a line
used_line : (pair : ℕ) → 1 ≤ pair → (s : Slot) → pair_in s ≡ pair → is_some (slot_line s) ≡ true
unfolding pair_in slot_line
used_line pair low Free e = absurd (omega arith)
used_line pair low (Used p x) e = refl

pub open_line : (pair : ℕ) → 1 ≤ pair → (ss : List Slot) → is_open pair ss ≡ is_some (line_at pair ss)
unfolding is_open any_of line_at is_of
open_line pair low [] = refl
open_line pair low (s ∷ ss) = go (is_of pair s) refl (open_line pair low ss)
  where
    go : (b : Bool) → is_of pair s ≡ b → is_open pair ss ≡ is_some (line_at pair ss) → b || is_open pair ss ≡ is_some (cond b (slot_line s) (line_at pair ss))
    go true e rest = sym (used_line pair low s (eqb-true (pair_in s) pair e))
    go false e rest = rest

-- a pair that is not open has no line
pub closed_line : (pair : ℕ) (ss : List Slot) → is_open pair ss ≡ false → line_at pair ss ≡ None
unfolding is_open any_of line_at
closed_line pair [] e = refl
closed_line pair (s ∷ ss) e = rw (or_left (is_of pair s) (any_of (is_of pair) ss) e, closed_line pair ss (or_right (is_of pair s) (any_of (is_of pair) ss) e))

module _ (pair : ℕ) (s : Slot) where
  -- another pair's line is as it was
  pub line_other : (q : ℕ) → (pair ≡ q → ⊥) → (pair_in s ≡ q → ⊥) → (ss : List Slot) → line_at q (replaced pair s ss) ≡ line_at q ss
  unfolding line_at replaced is_of
  line_other q away apart [] = refl
  line_other q away apart (t ∷ ts) = go (is_of pair t) refl (line_other q away apart ts)
    where
      go : (b : Bool) → is_of pair t ≡ b → line_at q (replaced pair s ts) ≡ line_at q ts
          → line_at q (cond b (s ∷ ts) (t ∷ replaced pair s ts)) ≡ cond (is_of q t) (slot_line t) (line_at q ts)
      go true e rest = rw (ne_eqb (pair_in s) q apart, ne_eqb (pair_in t) q (λ h. away (sym (eqb-true (pair_in t) pair e) ∙ h)))
      go false e rest = ap (cond (is_of q t) (slot_line t)) rest

  -- a slot of the same pair is found in its place
  pub line_changed : pair_in s ≡ pair → (ss : List Slot) → is_open pair ss ≡ true → line_at pair (replaced pair s ss) ≡ slot_line s
  unfolding is_open any_of line_at replaced is_of
  line_changed own [] e = absurd (false≢true e)
  line_changed own (t ∷ ts) e = go (is_of pair t) refl (line_changed own ts) e
    where
      go : (b : Bool) → is_of pair t ≡ b → (is_open pair ts ≡ true → line_at pair (replaced pair s ts) ≡ slot_line s) → b || is_open pair ts ≡ true
          → line_at pair (cond b (s ∷ ts) (t ∷ replaced pair s ts)) ≡ slot_line s
      go true q rest h = rw (eq-eqb (pair_in s) pair own)
      go false q rest h = ap (λ (b : Bool). cond b (slot_line t) (line_at pair (replaced pair s ts))) q ∙ rest h

  -- a slot of a pair that was not open is found in the place of another
  pub line_added : (ss : List Slot) → is_open pair ss ≡ true → is_open (pair_in s) ss ≡ false → line_at (pair_in s) (replaced pair s ss) ≡ slot_line s
  unfolding is_open any_of line_at replaced is_of
  line_added [] e new = absurd (false≢true e)
  line_added (t ∷ ts) e new = go (is_of pair t) refl (λ h. line_added ts h (or_right (is_of (pair_in s) t) (is_open (pair_in s) ts) new)) e
    where
      go : (b : Bool) → is_of pair t ≡ b → (is_open pair ts ≡ true → line_at (pair_in s) (replaced pair s ts) ≡ slot_line s) → b || is_open pair ts ≡ true
          → line_at (pair_in s) (cond b (s ∷ ts) (t ∷ replaced pair s ts)) ≡ slot_line s
      go true q rest h = rw (eq-eqb (pair_in s) (pair_in s) refl)
      go false q rest h =
          ap (λ (b : Bool). cond b (slot_line t) (line_at (pair_in s) (replaced pair s ts))) (or_left (is_of (pair_in s) t) (is_open (pair_in s) ts) new) ∙ rest h

-- the slots behind one of a pair are of others
module _ (pair : ℕ) (low : 1 ≤ pair) (t : Slot) (own : pair_in t ≡ pair) where
  same_is : (u : Slot) → same_pair t u ≡ is_of pair u
  unfolding same_pair
  same_is u = ap (λ (k : ℕ). leb 1 k && is_of k u) own ∙ ap (λ (b : Bool). b && is_of pair u) (le-leb 1 pair low)

  pub alike_open : (ss : List Slot) → any_of (same_pair t) ss ≡ is_open pair ss
  unfolding is_open any_of
  alike_open [] = refl
  alike_open (u ∷ ss) = rw (same_is u, alike_open ss)

-- where no pair stands twice, a pair whose slot is replaced by a free one, or one of another pair, is not found
pub line_dropped : (pair : ℕ) (s : Slot) → 1 ≤ pair → (pair_in s ≡ pair → ⊥) → (ss : List Slot) → pairs_once ss ≡ true → line_at pair (replaced pair s ss) ≡ None
unfolding pairs_once distinct line_at replaced is_of
line_dropped pair s low apart [] once = refl
line_dropped pair s low apart (t ∷ ts) once = go (is_of pair t) refl (line_dropped pair s low apart ts (and_right (not (any_of (same_pair t) ts)) (pairs_once ts) once))
  where
    go : (b : Bool) → is_of pair t ≡ b → line_at pair (replaced pair s ts) ≡ None → line_at pair (cond b (s ∷ ts) (t ∷ replaced pair s ts)) ≡ None
    go true q rest =
        let own : pair_in t ≡ pair = eqb-true (pair_in t) pair q in
        let away : is_open pair ts ≡ false = sym (alike_open pair low t own ts) ∙ not-true (any_of (same_pair t) ts) (and_left (not (any_of (same_pair t) ts)) (pairs_once ts) once) in
        rw (ne_eqb (pair_in s) pair apart) (closed_line pair ts away)
    go false q rest = rw q rest
