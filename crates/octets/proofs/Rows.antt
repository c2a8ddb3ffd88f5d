-- The laws of rows, by which a loop over numbers goes along a row, and of the first element that passes.
use Rattle.std.specs.Prelude.{None, Some}
use Prim.Native.Nat.{ℕ, zero, suc, ◌+◌, ◌-◌, ◌*◌, ◌≤◌, ◌<◌}
use mathlib.Core.Bool.{Bool, true, false, not, ◌&&◌, ◌||◌}
use mathlib.Core.List.{List, [], ◌∷◌, ◌++◌, map, append_assoc, append-nil}
use mathlib.Core.Path.{◌≡◌, refl, sym, ap, ap₂, ◌∙◌, subst}
use native.Mathlib.Nat.{add-zero, add-suc, suc-add, zero-add, add_comm, mul-zero, mul-suc, sub-zero, zero-sub, suc-sub-suc}
use native.Mathlib.Numerals.{add-one}
use native.Mathlib.Omega.{arith}
use lib.ListN.{length, get_or, set, take, drop, replicate, length-append, drop_of_length-le}
use lib.Seq.{drop-cons, get_or-take, length-take-le, take-suc}
use Rattle.octets.specs.Part.{part, Wrote}
use Rattle.octets.specs.Search.{all_of, any_of, distinct}
use Rattle.octets.specs.Row.{row, place, first, joined}
use Rattle.octets.proofs.Parts.{then}
use Rattle.octets.proofs.Search.{and_true}
use Rattle.octets.proofs.Sublists.{stored_behind}

module _ {A : Type 0} (f : ℕ → A) where
  -- what is left of a row is a row
  pub drop_row : (i k n : ℕ) → drop i (row f k n) ≡ row f (k + i) (n - i)
  unfolding row
  drop_row zero k n = ap₂ (row f) (sym (add-zero k)) (sym (sub-zero n))
  drop_row (suc i) k zero = ap (row f (k + suc i)) (sym (zero-sub (suc i)))
  drop_row (suc i) k (suc n) = drop_row i (suc k) n ∙ ap₂ (row f) (suc-add k i ∙ sym (add-suc k i)) (sym (suc-sub-suc n i))

  pub length_row : (k n : ℕ) → length (row f k n) ≡ n
  unfolding row
  length_row k zero = refl
  length_row k (suc n) = ap suc (length_row (suc k) n)

  -- a row passes where each of its values does
  pub row_passes : (p : A → Bool) (k n : ℕ) → ((i : ℕ) → i < k + n → p (f i) ≡ true) → all_of p (row f k n) ≡ true
  unfolding row all_of
  row_passes p k zero h = refl
  row_passes p k (suc n) h =
      and_true (p (f k)) (all_of p (row f (suc k) n)) (h k (omega arith)) (row_passes p (suc k) n (λ i l. h i (omega arith)))

  -- a row of one value
  pub row_of : (x : A) (k n : ℕ) → ((i : ℕ) → i < k + n → f i ≡ x) → row f k n ≡ replicate n x
  unfolding row
  row_of x k zero e = refl
  row_of x k (suc n) e = ap₂ (λ (y : A) (ys : List A). y ∷ ys) (e k (omega arith)) (row_of x (suc k) n (λ i h. e i (omega arith)))

  -- two rows with the same values
  pub row_same : (g : ℕ → A) (k n : ℕ) → ((i : ℕ) → k ≤ i → i < k + n → g i ≡ f i) → row g k n ≡ row f k n
  unfolding row
  row_same g k zero e = refl
  row_same g k (suc n) e = ap₂ (λ (y : A) (ys : List A). y ∷ ys) (e k (omega arith) (omega arith)) (row_same g (suc k) n (λ i h m. e i (omega arith) (omega arith)))

  -- a row with another value at one number
  pub row_set : (g : ℕ → A) (i : ℕ) (v : A) → ((j : ℕ) → (j ≡ i → ⊥) → g j ≡ f j) → g i ≡ v → (k n m : ℕ) → k + m ≡ i → row g k n ≡ set (row f k n) m v
  unfolding row
  row_set g i v others own k zero m e = refl
  row_set g i v others own k (suc n) zero e =
      let here : k ≡ i = omega (arith, e) in
      ap₂ (λ (y : A) (ys : List A). y ∷ ys) (ap g here ∙ own) (row_same g (suc k) n (λ j h less. others j (λ q. omega arith)))
  row_set g i v others own k (suc n) (suc m) e =
      ap₂ (λ (y : A) (ys : List A). y ∷ ys) (others k (λ q. omega arith)) (row_set g i v others own (suc k) n m (omega arith))

  -- a value by its number in a row, and past its end
  pub get_d_row : (d : A) (k n i : ℕ) → i < n → get_or (row f k n) i d ≡ f (k + i)
  unfolding row
  get_d_row d k zero i h = absurd (omega arith)
  get_d_row d k (suc n) zero h = ap f (sym (add-zero k))
  get_d_row d k (suc n) (suc i) h = get_d_row d (suc k) n i (omega arith) ∙ ap f (suc-add k i ∙ sym (add-suc k i))

  pub get_d_past : (d : A) (k n i : ℕ) → n ≤ i → get_or (row f k n) i d ≡ d
  unfolding row
  get_d_past d k zero i h = refl
  get_d_past d k (suc n) zero h = absurd (omega arith)
  get_d_past d k (suc n) (suc i) h = get_d_past d (suc k) n i (omega arith)

  -- no value of a row passes
  pub row_fails : (p : A → Bool) (k n : ℕ) → ((i : ℕ) → k ≤ i → i < k + n → p (f i) ≡ false) → any_of p (row f k n) ≡ false
  unfolding row any_of
  row_fails p k zero e = refl
  row_fails p k (suc n) e = rw (e k (omega arith) (omega arith)) (row_fails p (suc k) n (λ i h m. e i (omega arith) (omega arith)))

  -- no two values of a row are alike
  pub row_distinct : (alike : A → A → Bool) (k n : ℕ) → ((i j : ℕ) → i < j → j < k + n → alike (f i) (f j) ≡ false) → distinct alike (row f k n) ≡ true
  unfolding row distinct
  row_distinct alike k zero e = refl
  row_distinct alike k (suc n) e =
      rw (row_fails (alike (f k)) (suc k) n (λ j h m. e k j (omega arith) (omega arith))) (row_distinct alike (suc k) n (λ i j h m. e i j h (omega arith)))

  module _ (k n : ℕ) where
    -- one value more of a row that ends before n
    pub row_more : k < n → row f k (n - k) ≡ f k ∷ row f (k + 1) (n - (k + 1))
    unfolding row
    row_more h =
        let left : n - k ≡ suc (n - (k + 1)) = omega arith in
        rw (left, add-one)

    -- no value more
    pub row_done : n ≤ k → row f k (n - k) ≡ []
    unfolding row
    row_done h =
        let left : n - k ≡ 0 = omega arith in
        rw left

  -- the place of the first element that passes, where i elements failed
  module _ (p : A → Bool) (i n : ℕ) where
    -- the next one fails
    pub place_more : i < n → p (f i) ≡ false → i + place p (row f i (n - i)) ≡ i + 1 + place p (row f (i + 1) (n - (i + 1)))
    unfolding place
    place_more h e =
        let step : place p (row f i (n - i)) ≡ suc (place p (row f (i + 1) (n - (i + 1)))) = rw (row_more i n h, e) in
        omega (arith, step)

    -- the next one passes
    pub place_here : i < n → p (f i) ≡ true → i + place p (row f i (n - i)) ≡ i
    unfolding place
    place_here h e =
        let step : place p (row f i (n - i)) ≡ 0 = rw (row_more i n h, e) in
        omega (arith, step)

    -- none is left
    pub place_none : n ≤ i → i + place p (row f i (n - i)) ≡ i
    unfolding place
    place_none h =
        let step : place p (row f i (n - i)) ≡ 0 = rw (row_done i n h) in
        omega (arith, step)

  -- the first element that passes, where those before it failed
  module _ (p : A → Bool) (i n : ℕ) where
    pub first_more : i < n → p (f i) ≡ false → first p (row f i (n - i)) ≡ first p (row f (i + 1) (n - (i + 1)))
    unfolding first
    first_more h e = rw (row_more i n h, e)

    pub first_here : i < n → p (f i) ≡ true → first p (row f i (n - i)) ≡ Some (f i)
    unfolding first
    first_here h e = rw (row_more i n h, e)

    pub first_none : n ≤ i → first p (row f i (n - i)) ≡ None
    unfolding first
    first_none h = rw (row_done i n h)

  -- each of those that are left passes
  module _ (p : A → Bool) (n i : ℕ) where
    pub rest_more : i < n → (t : Bool) → p (f i) ≡ t → all_of p (row f i (n - i)) ≡ t && all_of p (row f (i + 1) (n - (i + 1)))
    unfolding all_of
    rest_more h t e = rw (row_more i n h, e)

    pub rest_none : n ≤ i → all_of p (row f i (n - i)) ≡ true
    unfolding all_of
    rest_none h = rw (row_done i n h)

  -- one value more at the end of a row
  pub row_last : (k n : ℕ) → row f k (suc n) ≡ row f k n ++ f (k + n) ∷ []
  unfolding row
  row_last k zero = ap (λ (i : ℕ). f i ∷ []) (sym (add-zero k))
  row_last k (suc n) = ap (λ (l : List A). f k ∷ l) (row_last (suc k) n ∙ ap (λ (i : ℕ). row f (suc k) n ++ f i ∷ []) (suc-add k n ∙ sym (add-suc k n)))

  -- a list that holds the first i values of a row, and the next one stored behind them
  pub row_stored : (l : List A) (i : ℕ) (v : A) → i < length l → take i l ≡ row f 0 i → v ≡ f i → take (i + 1) (set l i v) ≡ row f 0 (i + 1)
  row_stored l i v h e q =
      stored_behind l i v h ∙ ap₂ (λ (m : List A) (x : A). m ++ x ∷ []) e (q ∙ ap f (sym (zero-add i)))
      ∙ sym (row_last 0 i) ∙ ap (row f 0) (sym (add-one i))

pub joined_append : {A : Type 0} (g : A → List ℕ) (l m : List A) → joined g (l ++ m) ≡ joined g l ++ joined g m
unfolding joined
joined_append g [] m = refl
joined_append g (x ∷ l) m = ap (λ (r : List ℕ). g x ++ r) (joined_append g l m) ∙ sym (append_assoc (g x) (joined g l) (joined g m))

-- the octets of elements that have w octets each
module _ {A : Type 0} (g : A → List ℕ) (w : ℕ) (wide : (x : A) → length (g x) ≡ w) where
  pub length_joined : (l : List A) → length (joined g l) ≡ w * length l
  unfolding joined
  length_joined [] = sym (mul-zero w)
  length_joined (x ∷ l) = length-append (g x) (joined g l) ∙ ap₂ (λ (a b : ℕ). a + b) (wide x) (length_joined l) ∙ add_comm w (w * length l) ∙ sym (mul-suc w (length l))

  -- the first i elements are stored, and the next one right behind them
  pub joined_stored : {b₀ b b' : List ℕ} {at : ℕ} (l : List A) (i : ℕ) (d : A) → i < length l → Wrote b₀ at (joined g (take i l)) b
      → Wrote b (at + w * i) (g (get_or l i d)) b' → Wrote b₀ at (joined g (take (i + 1) l)) b'
  unfolding joined
  joined_stored {b₀} {b} {b'} {at} l i d h done more =
      let before : length (joined g (take i l)) ≡ w * i = length_joined (take i l) ∙ ap (λ (k : ℕ). w * k) (length-take-le i l (omega arith)) in
      let all : joined g (take (i + 1) l) ≡ joined g (take i l) ++ g (get_or l i d) =
      ap (λ (k : ℕ). joined g (take k l)) (add-one i) ∙ ap (joined g) (take-suc l i d h) ∙ joined_append g (take i l) (get_or l i d ∷ [])
      ∙ ap (λ (r : List ℕ). joined g (take i l) ++ r) (append-nil (g (get_or l i d))) in
      subst (λ (r : List ℕ). Wrote b₀ at r b') (sym all) (then done more (ap (λ (k : ℕ). at + k) (sym before)))

  -- the first i elements are all n that are asked for
  pub joined_whole : {b b' : List ℕ} {at i n : ℕ} (l : List A) → i ≡ n → Wrote b at (joined g (take i l)) b' → Wrote b at (joined g (take n l)) b'
  joined_whole {b} {b'} {at} l e w = subst (λ (k : ℕ). Wrote b at (joined g (take k l)) b') e w

-- the first n elements of a list, from the one at i on
module _ {A : Type 0} (l : List A) (n i : ℕ) (long : n ≤ length l) where
  pub left_more : (d : A) → i < n → drop i (take n l) ≡ get_or l i d ∷ drop (i + 1) (take n l)
  left_more d h =
      let inside : i < length (take n l) = rw (length-take-le n l long) h in
      drop-cons (take n l) i d inside ∙ rw (get_or-take n l i d h, add-one)

  pub left_none : n ≤ i → drop i (take n l) ≡ []
  left_none h =
      let all : length (take n l) ≤ i = rw (length-take-le n l long) h in
      drop_of_length-le (take n l) all

  -- a test of each of them
  module _ (p : A → Bool) where
    pub any_of_more : (d : A) → i < n → (t : Bool) → p (get_or l i d) ≡ t → any_of p (drop i (take n l)) ≡ t || any_of p (drop (i + 1) (take n l))
    unfolding any_of
    any_of_more d h t e = rw (left_more d h, e)

    pub any_of_none : n ≤ i → any_of p (drop i (take n l)) ≡ false
    unfolding any_of
    any_of_none h = rw (left_none h)

  -- a test of each of them against those behind it
  module _ (alike : A → A → Bool) where
    pub distinct_more : (d : A) → i < n → (t : Bool) → any_of (alike (get_or l i d)) (drop (i + 1) (take n l)) ≡ t
        → distinct alike (drop i (take n l)) ≡ not t && distinct alike (drop (i + 1) (take n l))
    unfolding distinct
    distinct_more d h t e = rw (left_more d h, e)

    pub distinct_none : n ≤ i → distinct alike (drop i (take n l)) ≡ true
    unfolding distinct
    distinct_none h = rw (left_none h)

-- what each value of a row becomes
pub map_row : {A B : Type 0} (g : A → B) (f : ℕ → A) (k n : ℕ) → map g (row f k n) ≡ row (λ i. g (f i)) k n
unfolding row
map_row g f k zero = refl
map_row {B = B} g f k (suc n) = ap (λ (ys : List B). g (f k) ∷ ys) (map_row g f (suc k) n)

-- the octet i places on from a place
unfoldable pub octet_on : List ℕ → ℕ → ℕ → ℕ
octet_on l at i = get_or l (at + i) 0

module _ (l : List ℕ) (at : ℕ) where
  left_row : (k n : ℕ) → at + k + n ≤ length l → take n (drop (at + k) l) ≡ row (octet_on l at) k n
  unfolding row octet_on
  left_row k zero h = refl
  left_row k (suc n) h =
      ap (take (suc n)) (drop-cons l (at + k) 0 (omega arith))
      ∙ ap (λ (m : List ℕ). get_or l (at + k) 0 ∷ m) (ap (λ (i : ℕ). take n (drop i l)) (sym (add-suc at k)) ∙ left_row (suc k) n (omega arith))

  -- a part is the row of its octets
  pub part_row : (n : ℕ) → at + n ≤ length l → part l at n ≡ row (octet_on l at) 0 n
  unfolding part
  part_row n h = ap (λ (i : ℕ). take n (drop i l)) (sym (add-zero at)) ∙ left_row 0 n (omega arith)
