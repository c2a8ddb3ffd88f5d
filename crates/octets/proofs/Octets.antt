-- Lists of octets: what is written from numbers and zeros has no element of 256 or more.
use Prim.Native.Nat.{ℕ, zero, suc, ◌-◌, ◌/◌, ◌%◌, ◌<◌}
use mathlib.Core.Bool.{true}
use mathlib.Core.List.{List, [], ◌∷◌, ◌++◌}
use mathlib.Core.Path.{◌≡◌, refl}
use native.Mathlib.Nat.{mod-lt}
use native.Mathlib.Omega.{arith}
use lib.Dec.{ltb}
use lib.ListN.{length, get_or}
use borrow.Author.Tests.{lt-ltb}
use Rattle.octets.specs.Digits.{be, digits}
use Rattle.octets.specs.Laws.{below}
use Rattle.octets.specs.Part.{padded, zeros}
use Rattle.octets.specs.Row.{joined}
use Rattle.octets.specs.Search.{all_of}
use Rattle.octets.proofs.Search.{and_left, and_right, and_true}

-- every element of a list is an octet
pub record Octets (l : List ℕ) : Type 0 where
  pub octets : all_of (below 256) l ≡ true

-- a list whose elements are octets by their numbers
pub each_octet : (l : List ℕ) → ((i : ℕ) → get_or l i 0 < 256) → all_of (below 256) l ≡ true
unfolding all_of below
each_octet [] h = refl
each_octet (x ∷ l) h = and_true (ltb x 256) (all_of (below 256) l) (lt-ltb x 256 (h 0)) (each_octet l (λ i. h (suc i)))

-- two lists, one behind the other
pub joins : {a b : List ℕ} → Octets a → Octets b → Octets (a ++ b)
unfolding all_of
joins {a} {b} p q = record { octets = go a p.octets }
  where
    go : (l : List ℕ) → all_of (below 256) l ≡ true → all_of (below 256) (l ++ b) ≡ true
    go [] h = q.octets
    go (x ∷ l) h = and_true (below 256 x) (all_of (below 256) (l ++ b)) (and_left (below 256 x) (all_of (below 256) l) h) (go l (and_right (below 256 x) (all_of (below 256) l) h))

pub be_octets : (n x : ℕ) → Octets (be n x)
unfolding be digits all_of below
be_octets zero x = record { octets = refl }
be_octets (suc n) x = joins (be_octets n (x / 256)) (record { octets = rw (lt-ltb (x % 256) 256 (mod-lt x (omega arith))) })

pub zeros_octets : (n : ℕ) → Octets (zeros n)
unfolding zeros all_of below
zeros_octets zero = record { octets = refl }
zeros_octets (suc n) = record { octets = (zeros_octets n).octets }

-- elements that are written as octets, padded
module _ {A : Type 0} (g : A → List ℕ) (each : (x : A) → Octets (g x)) where
  joined_octets : (xs : List A) → Octets (joined g xs)
  unfolding joined all_of
  joined_octets [] = record { octets = refl }
  joined_octets (x ∷ xs) = joins (each x) (joined_octets xs)

  pub row_octets : (m : ℕ) (xs : List A) → Octets (padded m (joined g xs))
  unfolding padded
  row_octets m xs = joins (joined_octets xs) (zeros_octets (m - length (joined g xs)))
