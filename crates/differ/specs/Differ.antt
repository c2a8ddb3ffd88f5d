-- Numbers in eight places, compared with each other.
use Rattle.std.specs.Prelude.{ℕ, ◌+◌, ◌<◌, Bool, not, List, ◌≡◌, eqb, get_or}
use Rattle.octets.specs.Search.{all}

-- the number at i is another than the one d places on
unfoldable pub differs_on : List ℕ → ℕ → ℕ → Bool
differs_on w d i = not (eqb (get_or w i 0) (get_or w (i + d) 0))

-- how many places there are
abbrev pub places : ℕ
places = 8

-- the number at i is another than the one at j
unfoldable pub differs_from : List ℕ → ℕ → ℕ → Bool
differs_from w j i = not (eqb (get_or w i 0) (get_or w j 0))

-- no place before j holds its number
unfoldable pub is_new : List ℕ → ℕ → Bool
is_new w j = all j (differs_from w j)

-- no two of the places hold the same number
unfoldable pub all_differ : List ℕ → Bool
all_differ w = all places (is_new w)

-- r holds the numbers of w, and behind them the same again
abbrev pub Twice : List ℕ → List ℕ → Type 0
Twice w r = (i : ℕ) → i < places → (get_or r i 0 ≡ get_or w i 0) × (get_or r (i + places) 0 ≡ get_or w i 0)
