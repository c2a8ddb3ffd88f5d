-- Octets within a list: a part of it, octets spliced into it, and a text padded with zeros.
use Rattle.std.specs.Prelude.{ℕ, ◌+◌, ◌-◌, Bool, true, false, ◌&&◌, List, [], ◌∷◌, ◌++◌, ◌≡◌, eqb, length, get_or, take, drop, replicate}
use Rattle.std.proofs.lemmas.List.Edits.{sets}

-- the n octets of l from a place
unfoldable pub part : List ℕ → ℕ → ℕ → List ℕ
part l at n = take n (drop at l)

-- n zeros
unfoldable pub zeros : ℕ → List ℕ
zeros n = replicate n 0

-- n octets that begin with l and are zero after it
unfoldable pub padded : ℕ → List ℕ → List ℕ
padded n l = l ++ zeros (n - length l)

-- two lists hold the same octets
unfoldable pub same : List ℕ → List ℕ → Bool
same [] [] = true
same [] (y ∷ ys) = false
same (x ∷ xs) [] = false
same (x ∷ xs) (y ∷ ys) = eqb x y && same xs ys

-- n zeros stand at a place
unfoldable pub zeros_at : List ℕ → ℕ → ℕ → Bool
zeros_at l at n = same (part l at n) (zeros n)

-- the octet k places on from a place is x
unfoldable pub octet_is : List ℕ → ℕ → ℕ → ℕ → Bool
octet_is l from x k = eqb (get_or l (from + k) 0) x

-- m is l with vs spliced in: stored over its octets one after another from a place
pub record Wrote (l : List ℕ) (at : ℕ) (vs m : List ℕ) : Type 0 where
  pub wrote : m ≡ sets l at vs
