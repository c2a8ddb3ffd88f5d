-- Numbered refusals: a call lists each number that it can give with its condition, in rising order.
use Rattle.std.specs.Prelude.{ℕ, ◌<◌, Bool, true, cond, List, [], ◌∷◌, ◌⊎◌, ◌≡◌}

infix 68 ◌when◌
-- a number and the condition under which it applies
pub data Refusal : Type 0 where
  ◌when◌ : ℕ → Bool → Refusal

-- the first number whose condition holds, 0 where none does
unfoldable pub refusal : List Refusal → ℕ
refusal [] = 0
refusal ((n when b) ∷ rs) = cond b n (refusal rs)

-- the numbers rise, and the first is above m
abbrev pub Rising : ℕ → List Refusal → Type 0
Rising m [] = Unit {0}
Rising m ((n when b) ∷ rs) = (m < n) × Rising n rs

-- n stands in the list with a condition that holds
abbrev pub Applies : ℕ → List Refusal → Type 0
Applies n [] = ⊥
Applies n ((m when b) ∷ rs) = ((m ≡ n) × (b ≡ true)) ⊎ Applies n rs
