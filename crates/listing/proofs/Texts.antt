-- The texts of a listing, part by part.
use Rattle.std.specs.Prelude.{Option, None, Some}
use Prim.Native.Nat.{ℕ, suc, ◌+◌, ◌-◌, ◌≤◌, ◌<◌}
use mathlib.Core.List.{List, [], ◌∷◌, ◌++◌, append_assoc}
use mathlib.Core.Path.{◌≡◌, refl, sym, ap, ap₂, ◌∙◌}
use native.Mathlib.Numerals.{add-one}
use Rattle.octets.specs.Row.{joined, row}
use Rattle.octets.proofs.Rows.{length_row, row_done, row_more}
use Rattle.children.specs.Children.{child_in, children_from}
use Rattle.children.specs.declared.Child.{Child}
use Rattle.record.specs.Line.{Line}
use Rattle.text.specs.Text.{text, decimal, digit_text}
use Rattle.rules.specs.Listing.{child_text, line_text, list_from, newline, tab}
use Rattle.listing.specs.Branch.{head_text, open_text, tail_text}

-- a child's record up to its SPI, and its session
pub child_parts : (n : ℕ) (c : Child)
    → child_text n c ≡ text "child" ++ tab ++ decimal n ++ tab ++ digit_text 16 8 c.spi ++ (tab ++ decimal c.session ++ newline)
unfolding child_text
child_parts n c = simp append_assoc

-- a line up to its address, and its children
pub line_parts : (n : ℕ) (x : Line) → line_text n x ≡ head_text n x.phase ++ tail_text n x.children
unfolding line_text head_text tail_text
line_parts n x = simp append_assoc

-- the count of children, and their records
pub tail_parts : (n : ℕ) (l : List ℕ) (at : ℕ) {k m : ℕ} → k ≡ m
    → tail_text n (children_from l at m) ≡ tab ++ decimal k ++ newline ++ joined (child_text n) (children_from l at k)
unfolding tail_text children_from
tail_parts n l at {k} {m} e =
    ap₂ (λ (i j : ℕ). tab ++ decimal i ++ newline ++ joined (child_text n) (row (child_in l at) 0 j)) (length_row (child_in l at) 0 m ∙ sym e) (sym e)

-- the next of n values in a row, and those behind it
module _ {A : Type 0} (g : A → List ℕ) (f : ℕ → A) (i n : ℕ) where
  pub next_joined : i < n → joined g (row f i (n - i)) ≡ g (f i) ++ joined g (row f (i + 1) (n - (i + 1)))
  unfolding joined
  next_joined h = ap (joined g) (row_more f i n h)

  pub none_joined : n ≤ i → joined g (row f i (n - i)) ≡ []
  unfolding joined
  none_joined h = ap (joined g) (row_done f i n h)

-- the next line, and those behind it
module _ (f : ℕ → Option Line) (k n : ℕ) where
  list_next : (o : Option Line) (xs : List (Option Line)) → list_from k (o ∷ xs) ≡ open_text k o ++ list_from (suc k) xs
  unfolding list_from open_text
  list_next None xs = refl
  list_next (Some x) xs = refl

  pub next_line : k < n → list_from k (row f k (n - k)) ≡ open_text k (f k) ++ list_from (k + 1) (row f (k + 1) (n - (k + 1)))
  next_line h =
      ap (list_from k) (row_more f k n h) ∙ list_next (f k) (row f (k + 1) (n - (k + 1)))
      ∙ ap (λ (j : ℕ). open_text k (f k) ++ list_from j (row f (k + 1) (n - (k + 1)))) (sym (add-one k))

  pub no_line : n ≤ k → list_from k (row f k (n - k)) ≡ []
  unfolding list_from
  no_line h = ap (list_from k) (row_done f k n h)
