-- The parts of a list into which octets are spliced: those beside them stay, and they stand at their place.
use Prim.Native.Nat.{ℕ, zero, suc, ◌+◌, ◌-◌, ◌≤◌, ◌<◌}
use mathlib.Core.Bool.{Bool, true}
use mathlib.Core.List.{List, [], ◌∷◌, ◌++◌, append_assoc}
use mathlib.Core.Path.{◌≡◌, refl, ap, ◌∙◌}
use native.Mathlib.Omega.{arith}
use lib.ListN.{length, set, take, drop}
use lib.Seq.{sets, sets-eq, take-set-le, drop-set-lt, drop-set-add, take_at, drop_at, take-take, drop-drop, length-take-le}
use Rattle.octets.specs.Digits.{field, number}
use Rattle.octets.specs.Part.{part, zeros}
use Rattle.octets.specs.Search.{all_of}
use Rattle.octets.proofs.Parts.{drop_zeros}
use Rattle.octets.proofs.Search.{and_left, and_right, and_true}

module _ (l : List ℕ) (from n : ℕ) where
  -- one octet stored behind a part, or before it
  set_behind : (k v : ℕ) → from + n ≤ k → part (set l k v) from n ≡ part l from n
  unfolding part
  set_behind k v h =
      let split : k ≡ from + (k - from) = omega arith in
      ap (λ (i : ℕ). take n (drop from (set l i v))) split
      ∙ ap (take n) (drop-set-add from l (k - from) v)
      ∙ take-set-le n (drop from l) (k - from) v (omega arith)

  set_before : (k v : ℕ) → k < from → part (set l k v) from n ≡ part l from n
  unfolding part
  set_before k v h = ap (take n) (drop-set-lt from l k v h)

-- octets spliced in behind a part, or before it
pub part_before : (l : List ℕ) (at : ℕ) (vs : List ℕ) (from n : ℕ) → from + n ≤ at → part (sets l at vs) from n ≡ part l from n
part_before l at [] from n h = refl
part_before l at (v ∷ vs) from n h = part_before (set l at v) (suc at) vs from n (omega arith) ∙ set_behind l from n at v h

pub part_behind : (l : List ℕ) (at : ℕ) (vs : List ℕ) (from n : ℕ) → at + length vs ≤ from → part (sets l at vs) from n ≡ part l from n
part_behind l at [] from n h = refl
part_behind l at (v ∷ vs) from n h = part_behind (set l at v) (suc at) vs from n (omega arith) ∙ set_before l from n at v (omega arith)

-- octets stand where they are spliced in
pub part_here : (l : List ℕ) (at : ℕ) (vs : List ℕ) → at + length vs ≤ length l → part (sets l at vs) at (length vs) ≡ vs
unfolding part
part_here l at vs h =
    let rest = drop (at + length vs) l in
    let size : length (take at l) ≡ at = length-take-le at l (omega arith) in
    ap (λ (m : List ℕ). take (length vs) (drop at m)) (sets-eq vs l at h ∙ append_assoc (take at l) vs rest)
    ∙ ap (take (length vs)) (drop_at (take at l) (vs ++ rest) at size)
    ∙ take_at vs rest (length vs) refl

-- a part of a part
drop_take : (n from : ℕ) (l : List ℕ) (m : ℕ) → from + m ≤ n → take m (drop from (take n l)) ≡ take m (drop from l)
drop_take n zero l m h = take-take m n l (omega arith)
drop_take zero (suc from) l m h = absurd (omega arith)
drop_take (suc n) (suc from) [] m h = refl
drop_take (suc n) (suc from) (x ∷ l) m h = drop_take n from l m (omega arith)

pub part_part : (l : List ℕ) (at n from m : ℕ) → from + m ≤ n → part (part l at n) from m ≡ part l (at + from) m
unfolding part
part_part l at n from m h = drop_take n from (drop at l) m h ∙ ap (take m) (drop-drop from at l)

pub field_part : (l : List ℕ) (at n from m : ℕ) → from + m ≤ n → field (part l at n) from m ≡ field l (at + from) m
unfolding field
field_part l at n from m h = ap (number 256) (part_part l at n from m h)

-- a part of zeros
take_zeros : (n m : ℕ) → n ≤ m → take n (zeros m) ≡ zeros n
unfolding zeros
take_zeros zero m h = refl
take_zeros (suc n) zero h = absurd (omega arith)
take_zeros (suc n) (suc m) h = ap (λ (l : List ℕ). 0 ∷ l) (take_zeros n m (omega arith))

pub part_zeros : (m at n : ℕ) → at + n ≤ m → part (zeros m) at n ≡ zeros n
unfolding part
part_zeros m at n h = ap (take n) (drop_zeros at m) ∙ take_zeros n (m - at) (omega arith)

-- a test of each element, where all that are spliced in pass
module _ (p : ℕ → Bool) where
  set_passes : (l : List ℕ) (k v : ℕ) → all_of p l ≡ true → p v ≡ true → all_of p (set l k v) ≡ true
  unfolding all_of
  set_passes [] k v h e = h
  set_passes (x ∷ l) zero v h e = and_true (p v) (all_of p l) e (and_right (p x) (all_of p l) h)
  set_passes (x ∷ l) (suc k) v h e = and_true (p x) (all_of p (set l k v)) (and_left (p x) (all_of p l) h) (set_passes l k v (and_right (p x) (all_of p l) h) e)

  pub sets_pass : (l : List ℕ) (at : ℕ) (vs : List ℕ) → all_of p l ≡ true → all_of p vs ≡ true → all_of p (sets l at vs) ≡ true
  unfolding all_of
  sets_pass l at [] h e = h
  sets_pass l at (v ∷ vs) h e = sets_pass (set l at v) (suc at) vs (set_passes l at v h (and_left (p v) (all_of p vs) e)) (and_right (p v) (all_of p vs) e)
