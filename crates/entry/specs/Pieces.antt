-- A text parted by a separator.
use Rattle.std.specs.Prelude.{ℕ, Bool, true, false, List, [], ◌∷◌, eqb}

-- a tab parts the fields of a line, a newline ends it
abbrev pub tab_code : ℕ
tab_code = 9

abbrev pub newline_code : ℕ
newline_code = 10

-- the pieces with one octet more in front: a separator begins a new one
unfoldable pub before : Bool → ℕ → List (List ℕ) → List (List ℕ)
before true c ps = [] ∷ ps
before false c [] = (c ∷ []) ∷ []
before false c (p ∷ ps) = (c ∷ p) ∷ ps

-- the pieces of a text between separators, one more than there are separators
unfoldable pub pieces : ℕ → List ℕ → List (List ℕ)
pieces separator [] = [] ∷ []
pieces separator (c ∷ l) = before (eqb c separator) c (pieces separator l)
