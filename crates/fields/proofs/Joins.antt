-- Pieces joined by a separator are parted again, and a text is its pieces joined.
use Prim.Native.Nat.{ℕ}
use mathlib.Core.Bool.{Bool, true, false, not}
use mathlib.Core.List.{List, [], ◌∷◌, ◌++◌}
use mathlib.Core.Path.{◌≡◌, refl, sym, ap, ap₂, ◌∙◌, subst}
use native.Mathlib.Omega.{arith}
use lib.Dec.{eqb}
use borrow.Author.Tests.{eqb-true, eq-eqb, ne_eqb, not-true}
use Rattle.octets.specs.Search.{all_of}
use Rattle.octets.proofs.Search.{and_left, and_right, and_true}
use Rattle.entry.specs.Pieces.{before, pieces}

-- a text has a first piece
pub some_piece : (x : ℕ) (l : List ℕ) → (p : List ℕ) × (ps : List (List ℕ)) × (pieces x l ≡ p ∷ ps)
unfolding pieces before
some_piece x [] = ([], [], refl)
some_piece x (c ∷ l) = go (eqb c x) (pieces x l)
  where
    go : (t : Bool) (qs : List (List ℕ)) → (p : List ℕ) × (ps : List (List ℕ)) × (before t c qs ≡ p ∷ ps)
    go true qs = ([], qs, refl)
    go false [] = (c ∷ [], [], refl)
    go false (q ∷ qs) = (c ∷ q, qs, refl)

-- an octet is no separator
unfoldable pub is_not : ℕ → ℕ → Bool
is_not x c = not (eqb c x)

-- no octet of a list is the separator
abbrev pub Free : ℕ → List ℕ → Type 0
Free x l = all_of (is_not x) l ≡ true

pub other : (x c : ℕ) → (c ≡ x → ⊥) → is_not x c ≡ true
unfolding is_not
other x c h = ap not (ne_eqb c x h)

-- what passes one test passes another that is weaker
pub all_weaker : (p q : ℕ → Bool) → ((c : ℕ) → p c ≡ true → q c ≡ true) → (l : List ℕ) → all_of p l ≡ true → all_of q l ≡ true
unfolding all_of
all_weaker p q h [] e = refl
all_weaker p q h (c ∷ l) e = and_true (q c) (all_of q l) (h c (and_left (p c) (all_of p l) e)) (all_weaker p q h l (and_right (p c) (all_of p l) e))

module _ (x : ℕ) where
  pub free_join : (l m : List ℕ) → Free x l → Free x m → Free x (l ++ m)
  unfolding all_of
  free_join [] m e f = f
  free_join (c ∷ l) m e f = and_true (is_not x c) (all_of (is_not x) (l ++ m)) (and_left (is_not x c) (all_of (is_not x) l) e) (free_join l m (and_right (is_not x c) (all_of (is_not x) l) e) f)

  -- a separator ends the first piece
  pub piece_ends : (l m : List ℕ) → Free x l → pieces x (l ++ x ∷ m) ≡ l ∷ pieces x m
  unfolding all_of is_not pieces before
  piece_ends [] m e = rw (eq-eqb x x refl)
  piece_ends (c ∷ l) m e =
      let here : eqb c x ≡ false = not-true (eqb c x) (and_left (is_not x c) (all_of (is_not x) l) e) in
      rw (here, piece_ends l m (and_right (is_not x c) (all_of (is_not x) l) e))

  -- without a separator there is one piece
  pub piece_alone : (l : List ℕ) → Free x l → pieces x l ≡ l ∷ []
  unfolding all_of is_not pieces before
  piece_alone [] e = refl
  piece_alone (c ∷ l) e =
      let here : eqb c x ≡ false = not-true (eqb c x) (and_left (is_not x c) (all_of (is_not x) l) e) in
      rw (here, piece_alone l (and_right (is_not x c) (all_of (is_not x) l) e))

  -- a text whose first piece is p and whose other pieces are ps
  abbrev pub Begins : List ℕ → List ℕ → List (List ℕ) → Type 0
  Begins l p [] = l ≡ p
  Begins l p (q ∷ qs) = (m : List ℕ) × (l ≡ p ++ x ∷ m) × (pieces x m ≡ q ∷ qs)

  begins_later : (c : ℕ) (l p : List ℕ) (ps : List (List ℕ)) → Begins l p ps → Begins (c ∷ l) (c ∷ p) ps
  begins_later c l p [] b = ap (λ (m : List ℕ). c ∷ m) b
  begins_later c l p (q ∷ qs) b = (b.0, ap (λ (m : List ℕ). c ∷ m) b.1, b.2)

  -- a text is its pieces joined
  pub begins : (l p : List ℕ) (ps : List (List ℕ)) → pieces x l ≡ p ∷ ps → Begins l p ps
  unfolding pieces before
  begins [] p [] e = cc
  begins [] p (q ∷ qs) e = absurd (let z : ◌≡◌ {A = ℕ} 0 1 = cc in omega arith)
  begins (c ∷ l) p ps e =
      let s = some_piece x l in
      go (eqb c x) refl s.0 s.1 s.2 (begins l s.0 s.1 s.2) (sym (ap (before (eqb c x) c) s.2) ∙ e)
    where
      start : c ≡ x → (q : List ℕ) (qs : List (List ℕ)) → pieces x l ≡ q ∷ qs → (ps : List (List ℕ)) → p ≡ [] → ps ≡ q ∷ qs → Begins (c ∷ l) p ps
      start h q qs f [] g k = absurd (let z : ◌≡◌ {A = ℕ} 0 1 = cc in omega arith)
      start h q qs f (r ∷ rs) g k = (l, ap₂ (λ (i : ℕ) (a : List ℕ). a ++ i ∷ l) h (sym g), f ∙ sym k)

      on : (q : List ℕ) (qs : List (List ℕ)) → Begins l q qs → p ≡ c ∷ q → ps ≡ qs → Begins (c ∷ l) p ps
      on q qs b g k = subst (λ (rs : List (List ℕ)). Begins (c ∷ l) p rs) (sym k) (subst (λ (r : List ℕ). Begins (c ∷ l) r qs) (sym g) (begins_later c l q qs b))

      go : (t : Bool) → eqb c x ≡ t → (q : List ℕ) (qs : List (List ℕ)) → pieces x l ≡ q ∷ qs → Begins l q qs → before t c (q ∷ qs) ≡ p ∷ ps → Begins (c ∷ l) p ps
      go true t q qs f b g = start (eqb-true c x t) q qs f ps (cc) (cc)
      go false t q qs f b g = on q qs b (cc) (cc)
