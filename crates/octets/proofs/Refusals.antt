-- The number that a rising list of refusals gives is the lowest whose condition holds.
use Prim.Native.Nat.{ℕ, suc, ◌≤◌, ◌<◌}
use mathlib.Core.Bool.{Bool, true, false, false≢true}
use mathlib.Core.List.{List, [], ◌∷◌, ◌++◌}
use mathlib.Core.Logic.{inl, inr, ⊎_elim}
use mathlib.Core.Path.{◌≡◌, refl, subst}
use native.Mathlib.Nat.{le_of_eq, le_of_lt, lt_trans, suc-ne-zero}
use Rattle.octets.specs.Refusal.{Refusal, ◌when◌, refusal, Rising, Applies}

-- whatever applies in a rising list is above its lower bound
above : (m : ℕ) (rs : List Refusal) → Rising m rs → (n : ℕ) → Applies n rs → m < n
above m [] r n a = absurd a
above m ((k when b) ∷ rs) r n a = ⊎_elim (λ h. subst (λ (x : ℕ). m < x) h.0 r.0) (λ h. lt_trans r.0 (above k rs r.1 n h)) a

pub refusal_lowest : (m : ℕ) (rs : List Refusal) → Rising m rs → (n : ℕ) → Applies n rs → Applies (refusal rs) rs × (refusal rs ≤ n)
unfolding refusal
refusal_lowest m [] r n a = absurd a
refusal_lowest m ((k when true) ∷ rs) r n a =
    (inl (refl, refl), ⊎_elim (λ h. le_of_eq h.0) (λ h. le_of_lt (above k rs r.1 n h)) a)
refusal_lowest m ((k when false) ∷ rs) r n a =
    let rest : Applies n rs = ⊎_elim (λ h. absurd (false≢true h.1)) (λ h. h) a in
    let low = refusal_lowest k rs r.1 n rest in
    (inr low.0, low.1)

pub refusal_none : (rs : List Refusal) → ((n : ℕ) → Applies n rs → ⊥) → refusal rs ≡ 0
unfolding refusal
refusal_none [] h = refl
refusal_none ((k when true) ∷ rs) h = absurd (h k (inl (refl, refl)))
refusal_none ((k when false) ∷ rs) h = refusal_none rs (λ n a. h n (inr a))

-- where no number is given, no condition holds
pub refusal_step : (n : ℕ) (b : Bool) (rs : List Refusal) → refusal ((suc n when b) ∷ rs) ≡ 0 → (b ≡ false) × (refusal rs ≡ 0)
unfolding refusal
refusal_step n true rs e = absurd (suc-ne-zero n e)
refusal_step n false rs e = (refl, e)

-- a number that is given is given whatever stands behind
pub refusal_ahead : (rs ss : List Refusal) → (refusal rs ≡ 0 → ⊥) → refusal (rs ++ ss) ≡ refusal rs
unfolding refusal
refusal_ahead [] ss h = absurd (h refl)
refusal_ahead ((n when true) ∷ rs) ss h = refl
refusal_ahead ((n when false) ∷ rs) ss h = refusal_ahead rs ss h
