-- The walk over AN-parameters, place by place, follows the definition on the list.
use Prim.Native.Nat.{ℕ, zero, suc, ◌+◌, ◌≤◌, ◌<◌}
use mathlib.Core.Bool.{Bool, true, false, cond, ◌&&◌}
use mathlib.Core.List.{List, [], ◌∷◌}
use mathlib.Core.Path.{◌≡◌, refl, sym, ap, ap₂, ◌∙◌}
use native.Mathlib.Nat.{zero-mul, zero-add, ne_of_lt}
use native.Mathlib.Numerals.{add-one}
use native.Mathlib.Omega.{arith}
use Rattle.std.specs.Prelude.{None, Some, Ok, Err}
use lib.Dec.{leb}
use lib.ListN.{length, get_or, drop, length-drop, drop_of_length-le}
use lib.Seq.{drop-cons, drop-drop}
use borrow.Author.Tests.{le-leb, lt-leb, leb-true, leb-false, eq-eqb, ne_eqb}
use Rattle.octets.specs.Digits.{field, number, number_from}
use Rattle.octets.specs.Part.{part}
use Rattle.octets.proofs.Search.{and_right}
use Rattle.parameters.specs.Parameters.{overrun, well_formed_in, size, whole_at, parameter_at}
use Rattle.parameters.specs.declared.Parameter.{Parameter}
use Rattle.parameters.specs.declared.Broken.{Broken}

-- one octet says itself
pub field_one : (l : List ℕ) (at : ℕ) → at < length l → field l at 1 ≡ get_or l at 0
unfolding field part number number_from
field_one l at h = rw (drop-cons l at 0 h) (ap (λ (k : ℕ). k + get_or l at 0) (zero-mul 256) ∙ zero-add (get_or l at 0))

-- nothing left is well formed
pub none_left : (n : ℕ) → well_formed_in n [] ≡ true
unfolding well_formed_in
none_left zero = refl
none_left (suc n) = refl

module _ (l : List ℕ) (at : ℕ) where
  -- two octets and what follows them
  pub two : at + 2 ≤ length l → drop at l ≡ field l at 1 ∷ size l at ∷ drop (at + 2) l
  unfolding size
  two h =
      let e : suc (suc at) ≡ at + 2 = omega arith in
      let first : get_or l at 0 ≡ field l at 1 = sym (field_one l at (omega arith)) in
      let second : get_or l (suc at) 0 ≡ field l (at + 1) 1 = ap (λ (k : ℕ). get_or l k 0) (sym (add-one at)) ∙ sym (field_one l (at + 1) (omega arith)) in
      drop-cons l at 0 (omega arith)
      ∙ ap₂ (λ (x : ℕ) (r : List ℕ). x ∷ r) first
      (drop-cons l (suc at) 0 (omega arith) ∙ ap₂ (λ (x : ℕ) (r : List ℕ). x ∷ r) second (ap (λ (k : ℕ). drop k l) e))

  -- one octet alone
  pub one : at + 1 ≡ length l → drop at l ≡ get_or l at 0 ∷ []
  one e =
      let last : length l ≤ suc at = omega arith in
      drop-cons l at 0 (omega arith) ∙ ap (λ (r : List ℕ). get_or l at 0 ∷ r) (drop_of_length-le l last)

  -- an AN-parameter that ends within the block
  pub passes : (n : ℕ) → at + 2 + size l at ≤ length l → well_formed_in (suc n) (drop at l) ≡ well_formed_in n (drop (at + 2 + size l at) l)
  unfolding well_formed_in
  passes n h =
      rw (two (omega arith), drop-drop (size l at) (at + 2) l, le-leb (size l at) (length (drop (at + 2) l)) (rw length-drop (omega arith)))

  -- one whose value runs past the end
  pub overruns : (n : ℕ) → at + 2 ≤ length l → length l < at + 2 + size l at → well_formed_in (suc n) (drop at l) ≡ false
  unfolding well_formed_in
  overruns n h k = rw (two h, lt-leb (size l at) (length (drop (at + 2) l)) (rw length-drop (omega arith)))

  -- a type octet with nothing behind it
  pub cut : (n : ℕ) → at + 1 ≡ length l → well_formed_in (suc n) (drop at l) ≡ false
  unfolding well_formed_in
  cut n e = rw (one e)

-- what the reading of one AN-parameter says of the walk
module _ (l : List ℕ) (at : ℕ) (more : at < length l) where
  abbrev inside : Bool
  inside = leb (at + 2) (length l) && leb (at + 2 + size l at) (length l)

  reading : parameter_at l at ≡ cond inside (Ok (Some (whole_at l at))) overrun
  unfolding parameter_at
  reading = rw (ne_eqb at (length l) (λ e. ne_of_lt more e))

  -- a whole one leads to the next place
  pub whole_next : (p : Parameter) → Ok (Some p) ≡ parameter_at l at → (p.next ≡ at + 2 + size l at) × (at + 2 + size l at ≤ length l)
  whole_next p e = go inside refl (e ∙ reading)
    where
      go : (t : Bool) → inside ≡ t → Ok (Some p) ≡ cond t (Ok (Some (whole_at l at))) overrun
          → (p.next ≡ at + 2 + size l at) × (at + 2 + size l at ≤ length l)
      go true i q =
          let is : p ≡ whole_at l at = cc in
          (ap (λ (p : Parameter). p.next) is, leb-true _ _ (and_right (leb (at + 2) (length l)) (leb (at + 2 + size l at) (length l)) i))
      go false i q = cc

  -- a broken one ends the walk
  pub broken_fails : (n : ℕ) (b : Broken) → Err b ≡ parameter_at l at → well_formed_in (suc n) (drop at l) ≡ false
  broken_fails n b e = go (leb (at + 2) (length l)) refl (leb (at + 2 + size l at) (length l)) refl (e ∙ reading)
    where
      go : (t : Bool) → leb (at + 2) (length l) ≡ t → (u : Bool) → leb (at + 2 + size l at) (length l) ≡ u
          → Err b ≡ cond (t && u) (Ok (Some (whole_at l at))) overrun → well_formed_in (suc n) (drop at l) ≡ false
      go true p true q b = cc
      go true p false q b = overruns l at n (leb-true _ _ p) (leb-false _ _ q)
      go false p u q b = cut l at n (omega (arith, leb-false))

  -- the end is not here
  pub not_end : Ok None ≡ parameter_at l at → ⊥
  not_end e = go inside (e ∙ reading)
    where
      go : (t : Bool) → Ok None ≡ cond t (Ok (Some (whole_at l at))) overrun → ⊥
      go true q = cc
      go false q = cc

-- what reading one AN-parameter answers
module _ (l : List ℕ) (at : ℕ) where
  pub ends : at ≡ length l → Ok None ≡ parameter_at l at
  unfolding parameter_at
  ends e = simp (eq-eqb at (length l) e)

  module _ (other : at ≡ length l → ⊥) where
    pub no_room : length l < at + 2 → overrun ≡ parameter_at l at
    unfolding parameter_at
    no_room h = simp (ne_eqb at (length l) other, lt-leb (at + 2) (length l) h)

    pub no_value : at + 2 ≤ length l → length l < at + 2 + size l at → overrun ≡ parameter_at l at
    unfolding parameter_at
    no_value h k = simp (ne_eqb at (length l) other, le-leb (at + 2) (length l) h, lt-leb (at + 2 + size l at) (length l) k)

    pub fits : at + 2 + size l at ≤ length l → Ok (Some (whole_at l at)) ≡ parameter_at l at
    unfolding parameter_at
    fits h = simp (ne_eqb at (length l) other, le-leb (at + 2) (length l) (omega arith), le-leb (at + 2 + size l at) (length l) h)
