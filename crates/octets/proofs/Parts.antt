-- The laws of parts, of octets spliced into a list, and of padding.
use Prim.Native.Nat.{ℕ, zero, suc, ◌+◌, ◌-◌, ◌≤◌, ◌<◌}
use mathlib.Core.Bool.{true, false≢true}
use mathlib.Core.List.{List, [], ◌∷◌, ◌++◌}
use mathlib.Core.Path.{◌≡◌, refl, sym, ap, ap₂, ◌∙◌}
use native.Mathlib.Nat.{add-zero, add-suc, suc-add, zero-add, ne_of_gt, sub-zero, zero-sub, suc-sub-suc}
use native.Mathlib.Omega.{arith}
use lib.Dec.{eqb}
use lib.ListN.{length, drop, get_or, set, length-append, length-replicate, length-drop}
use lib.Seq.{sets, length-sets, sets-eq, set_comm, length-take-le, get_or-take, get_or-drop}
use borrow.Author.Tests.{eqb-true, eq-eqb}
use Rattle.octets.specs.Part.{part, zeros, padded, same, Wrote}
use Rattle.octets.proofs.Search.{and_left, and_right, and_true}

pub length_part : (l : List ℕ) (at n : ℕ) → at + n ≤ length l → length (part l at n) ≡ n
unfolding part
length_part l at n h = length-take-le n (drop at l) (rw length-drop (omega arith))

-- the length of two runs, one behind the other
pub both : (a b : List ℕ) (m n : ℕ) → length a ≡ m → length b ≡ n → length (a ++ b) ≡ m + n
both a b m n e f = length-append a b ∙ ap₂ (λ (i j : ℕ). i + j) e f

-- two runs of stores, one after the other
pub sets_append : (l : List ℕ) (at : ℕ) (vs ws : List ℕ) → sets l at (vs ++ ws) ≡ sets (sets l at vs) (at + length vs) ws
sets_append l at [] ws = ap (λ (k : ℕ). sets l k ws) (sym (add-zero at))
sets_append l at (v ∷ vs) ws =
    sets_append (set l at v) (suc at) vs ws ∙ ap (λ (k : ℕ). sets (sets (set l at v) (suc at) vs) k ws) (suc-add at (length vs) ∙ sym (add-suc at (length vs)))

-- a store past a run of stores may come before it
pub set_before : (l : List ℕ) (at : ℕ) (vs : List ℕ) (k v : ℕ) → at + length vs ≤ k → sets (set l k v) at vs ≡ set (sets l at vs) k v
set_before l at [] k v h = refl
set_before l at (w ∷ vs) k v h =
    ap (λ (m : List ℕ). sets m (suc at) vs) (set_comm l k at v w (ne_of_gt (omega arith)))
    ∙ set_before (set l at w) (suc at) vs k v (omega arith)

-- the last of a run of stores may come first
pub sets_last : (l : List ℕ) (at : ℕ) (vs : List ℕ) (k v : ℕ) → at + length vs ≡ k → sets (set l k v) at vs ≡ sets l at (vs ++ v ∷ [])
sets_last l at vs k v e =
    set_before l at vs k v (omega arith) ∙ ap (λ (m : ℕ). set (sets l at vs) m v) (sym e) ∙ sym (sets_append l at vs (v ∷ []))

module _ {l m : List ℕ} {at : ℕ} {vs : List ℕ} (w : Wrote l at vs m) where
  pub wrote_length : length m ≡ length l
  wrote_length = ap length w.wrote ∙ length-sets l at vs

  -- what is written next, right after what was written, makes one longer write
  pub then : {n : List ℕ} {next : ℕ} {ws : List ℕ} → Wrote m next ws n → next ≡ at + length vs → Wrote l at (vs ++ ws) n
  then {n} {next} {ws} w₂ e = record {
    wrote =
        w₂.wrote ∙ ap₂ (λ (k : List ℕ) (i : ℕ). sets k i ws) w.wrote e ∙ sym (sets_append l at vs ws);
  }

-- what is left of zeros is zeros
pub drop_zeros : (k n : ℕ) → drop k (zeros n) ≡ zeros (n - k)
unfolding zeros
drop_zeros zero n = ap zeros (sym (sub-zero n))
drop_zeros (suc k) zero = ap zeros (sym (zero-sub (suc k)))
drop_zeros (suc k) (suc n) = drop_zeros k n ∙ ap zeros (sym (suc-sub-suc n k))

pub length_zeros : (n : ℕ) → length (zeros n) ≡ n
unfolding zeros
length_zeros n = length-replicate n 0

-- a list padded to more octets
pub padded_length : (n : ℕ) (l : List ℕ) → length l ≤ n → length (padded n l) ≡ n
unfolding padded
padded_length n l h =
    let size : length (l ++ zeros (n - length l)) ≡ length l + (n - length l) = both l (zeros (n - length l)) (length l) (n - length l) refl (length_zeros (n - length l)) in
    omega (arith, size)

-- zeros with a text stored from their start are the text padded
pub padded_wrote : (n : ℕ) (vs m : List ℕ) → length vs ≤ n → Wrote (zeros n) 0 vs m → m ≡ padded n vs
unfolding padded
padded_wrote n vs m h w =
    w.wrote ∙ sets-eq vs (zeros n) 0 (rw (length_zeros n) (omega arith))
    ∙ ap (λ (l : List ℕ). vs ++ l) (ap (λ (k : ℕ). drop k (zeros n)) (zero-add (length vs)) ∙ drop_zeros (length vs) n)

pub same_equal : (l m : List ℕ) → same l m ≡ true → l ≡ m
unfolding same
same_equal [] [] e = refl
same_equal [] (y ∷ ys) e = absurd (false≢true e)
same_equal (x ∷ xs) [] e = absurd (false≢true e)
same_equal (x ∷ xs) (y ∷ ys) e = ap₂ (λ (k : ℕ) (r : List ℕ). k ∷ r) (eqb-true x y (and_left (eqb x y) (same xs ys) e)) (same_equal xs ys (and_right (eqb x y) (same xs ys) e))

pub equal_same : (l : List ℕ) → same l l ≡ true
unfolding same
equal_same [] = refl
equal_same (x ∷ xs) = and_true (eqb x x) (same xs xs) (eq-eqb x x refl) (equal_same xs)

-- an octet of a part
pub get_d_part : (l : List ℕ) (at n i : ℕ) → i < n → get_or (part l at n) i 0 ≡ get_or l (at + i) 0
unfolding part
get_d_part l at n i h = rw (get_or-take, get_or-drop)

pub zeros_append : (k n : ℕ) → zeros k ++ zeros n ≡ zeros (k + n)
unfolding zeros
zeros_append zero n = ap zeros (sym (zero-add n))
zeros_append (suc k) n = ap (λ (l : List ℕ). 0 ∷ l) (zeros_append k n) ∙ ap zeros (sym (suc-add k n))
