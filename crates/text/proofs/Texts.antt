-- The laws of numbers as texts, over the base and the count of characters.
use Rattle.std.specs.Prelude.{Option, None, Some}
use Prim.Native.Nat.{ℕ, zero, suc, ◌+◌, ◌*◌, ◌/◌, ◌%◌, ◌^◌, ◌≤◌, ◌<◌, max}
use mathlib.Core.Bool.{Bool, true, false, cond, ◌&&◌, and_assoc, false≢true}
use mathlib.Core.List.{List, [], ◌∷◌, ◌++◌, map, map-append}
use mathlib.Core.Path.{◌≡◌, refl, sym, ap, ap₂, ◌∙◌, subst}
use native.Mathlib.Nat.{lt_of_lt_of_le, lt_irrefl, mod-eq_of_lt, mod-lt, mul_comm, pow-le-pow_right, pow-suc}
use native.Mathlib.Numerals.{add-one}
use native.Mathlib.Omega.{arith}
use lib.Dec.{leb, lit<, ltb, eqb}
use lib.ListN.{length, get_or, drop, length-map, drop_of_length-le}
use lib.Seq.{drop-cons}
use borrow.Author.Tests.{ltb-true, ltb-false, lt-ltb, le-ltb, lt-leb, eqb-true}
use Rattle.octets.specs.Digits.{digits, number, number_from}
use Rattle.octets.specs.Laws.{below}
use Rattle.octets.specs.Search.{all, all_of, least}
use Rattle.text.specs.Text.{character, digit, is_digit, digit_text, read_digits, decimal, decimal_width, short_enough}
use Rattle.octets.proofs.Digits.{length_digits, number_digits, digits_number, base_positive, digits_halves, number_halves, number_below}
use Rattle.octets.proofs.Search.{all_each, and_left, and_right, and_true, and_false, least_first, least_found, least_passes}
use Rattle.text.specs.Laws.{halves}

-- a digit's character stands for it
reads_back : ℕ → Bool
reads_back d = eqb (digit (character d)) d

pub digit_character : (d : ℕ) → d < 16 → digit (character d) ≡ d
unfolding reads_back all digit character
digit_character d h = eqb-true (digit (character d)) d (all_each 16 reads_back refl d h)

-- a character below 103 that stands for a digit is that digit's
writes_back : ℕ → Bool
writes_back c = cond (ltb (digit c) 16) (eqb (character (digit c)) c) true

when_true : (a b : Bool) → cond a b true ≡ true → a ≡ true → b ≡ true
when_true true b e t = e
when_true false b e t = absurd (false≢true t)

digit_high : (c : ℕ) → 102 < c → digit c ≡ 16
unfolding digit
digit_high c h =
    simp (and_false (leb 48 c) (leb c 57) (lt-leb c 57 (omega arith)), and_false (leb 97 c) (leb c 102) (lt-leb c 102 h))

pub character_digit : (c : ℕ) → digit c < 16 → character (digit c) ≡ c
unfolding writes_back all digit character
character_digit c h = go (ltb c 103) refl
  where
    go : (t : Bool) → ltb c 103 ≡ t → character (digit c) ≡ c
    go true e =
        eqb-true (character (digit c)) c
        (when_true (ltb (digit c) 16) (eqb (character (digit c)) c) (all_each 103 writes_back refl c (ltb-true c 103 e)) (lt-ltb (digit c) 16 h))
    go false e = absurd (lt_irrefl 16 (subst (λ (k : ℕ). k < 16) (digit_high c (ltb-false c 103 e)) h))

all_of_append : (p : ℕ → Bool) (l m : List ℕ) → all_of p (l ++ m) ≡ all_of p l && all_of p m
unfolding all_of
all_of_append p [] m = refl
all_of_append p (x ∷ l) m = ap (λ (t : Bool). p x && t) (all_of_append p l m) ∙ sym (and_assoc (p x) (all_of p l) (all_of p m))

pub digits_below : (b n x : ℕ) → 0 < b → all_of (below b) (digits b n x) ≡ true
unfolding digits all_of below
digits_below b zero x h = refl
digits_below b (suc n) x h =
    all_of_append (below b) (digits b n (x / b)) (x % b ∷ [])
    ∙ and_true (all_of (below b) (digits b n (x / b))) (ltb (x % b) b && true) (digits_below b n (x / b) h) (and_true (ltb (x % b) b) true (lt-ltb (x % b) b (mod-lt x h)) refl)

-- a number that fits n digits has digits of its base, also where it has none
digits_fit : (b n x : ℕ) → x < b ^ n → all_of (below b) (digits b n x) ≡ true
unfolding digits all_of
digits_fit b zero x h = refl
digits_fit b (suc n) x h = digits_below b (suc n) x (base_positive b n x h)

-- the characters of digits are read as those digits
pub digits_characters : (b : ℕ) (ds : List ℕ) → b ≤ 16 → all_of (below b) ds ≡ true → map digit (map character ds) ≡ ds
unfolding all_of below
digits_characters b [] h e = refl
digits_characters b (d ∷ ds) h e =
    let here : d < b = ltb-true d b (and_left (ltb d b) (all_of (below b) ds) e) in
    ap₂ (λ (k : ℕ) (l : List ℕ). k ∷ l) (digit_character d (lt_of_lt_of_le here h)) (digits_characters b ds h (and_right (ltb d b) (all_of (below b) ds) e))

-- the test of each character is that of its digit
pub all_of_digits : (b : ℕ) (l : List ℕ) → all_of (is_digit b) l ≡ all_of (below b) (map digit l)
unfolding all_of below is_digit
all_of_digits b [] = refl
all_of_digits b (c ∷ l) = ap (λ (t : Bool). ltb (digit c) b && t) (all_of_digits b l)

pub read_text : (b n x : ℕ) → b ≤ 16 → x < b ^ n → read_digits b (digit_text b n x) ≡ Some x
unfolding read_digits digit_text
read_text b n x h k =
    let small : all_of (below b) (digits b n x) ≡ true = digits_fit b n x k in
    let back : map digit (map character (digits b n x)) ≡ digits b n x = digits_characters b (digits b n x) h small in
    ap₂ (λ (t : Bool) (l : List ℕ). cond t (Some (number b l)) None) (all_of_digits b (map character (digits b n x)) ∙ ap (all_of (below b)) back ∙ small) back
    ∙ ap Some (number_digits b n x k)

-- the digits of a text are written as its characters
characters_digits : (b : ℕ) (l : List ℕ) → b ≤ 16 → all_of (below b) (map digit l) ≡ true → map character (map digit l) ≡ l
unfolding all_of below
characters_digits b [] h e = refl
characters_digits b (c ∷ l) h e =
    let here : digit c < b = ltb-true (digit c) b (and_left (ltb (digit c) b) (all_of (below b) (map digit l)) e) in
    ap₂ (λ (k : ℕ) (m : List ℕ). k ∷ m) (character_digit c (lt_of_lt_of_le here h)) (characters_digits b l h (and_right (ltb (digit c) b) (all_of (below b) (map digit l)) e))

-- a text is read only where the test passes
some_passes : (t : Bool) (y x : ℕ) → cond t (Some y) None ≡ Some x → (t ≡ true) × (y ≡ x)
some_passes true y x e = (refl, cc)
some_passes false y x e = (cc, cc)

pub write_text : (b x : ℕ) (l : List ℕ) → b ≤ 16 → read_digits b l ≡ Some x → digit_text b (length l) x ≡ l
unfolding read_digits digit_text
write_text b x l h e =
    let passed = some_passes (all_of (is_digit b) l) (number b (map digit l)) x e in
    let small : all_of (below b) (map digit l) ≡ true = sym (all_of_digits b l) ∙ passed.0 in
    ap₂ (λ (n y : ℕ). map character (digits b n y)) (sym (length-map l digit)) (sym passed.1)
    ∙ ap (map character) (digits_number b (map digit l) small) ∙ characters_digits b l h small

-- a text of n characters says a number of n digits
pub read_below : (b x : ℕ) (l : List ℕ) → read_digits b l ≡ Some x → x < b ^ length l
unfolding read_digits
read_below b x l e =
    let passed = some_passes (all_of (is_digit b) l) (number b (map digit l)) x e in
    subst (λ (n : ℕ). x < b ^ n) (length-map l digit)
    (subst (λ (y : ℕ). y < b ^ length (map digit l)) passed.1 (number_below b (map digit l) (sym (all_of_digits b l) ∙ passed.0)))

-- two texts are read together where each is read
both_read : (s t : Bool) (p x y z : ℕ) → z ≡ x * p + y → cond (s && t) (Some z) None ≡ halves p (cond s (Some x) None) (cond t (Some y) None)
unfolding halves
both_read true true p x y z e = ap Some e
both_read true false p x y z e = refl
both_read false t p x y z e = refl

pub read_halves : (b : ℕ) (l m : List ℕ) → read_digits b (l ++ m) ≡ halves (b ^ length m) (read_digits b l) (read_digits b m)
unfolding read_digits
read_halves b l m =
    let whole : number b (map digit (l ++ m)) ≡ number b (map digit l) * b ^ length m + number b (map digit m) =
    ap (number b) (map-append digit l m) ∙ number_halves b (map digit l) (map digit m)
    ∙ ap (λ (n : ℕ). number b (map digit l) * b ^ n + number b (map digit m)) (length-map m digit) in
    ap (λ (t : Bool). cond t (Some (number b (map digit (l ++ m)))) None) (all_of_append (is_digit b) l m)
    ∙ both_read (all_of (is_digit b) l) (all_of (is_digit b) m) (b ^ length m) (number b (map digit l)) (number b (map digit m)) (number b (map digit (l ++ m))) whole

pub text_halves : (b m n high low : ℕ) → low < b ^ n → digit_text b (m + n) (high * b ^ n + low) ≡ digit_text b m high ++ digit_text b n low
unfolding digit_text
text_halves b m n high low h =
    ap (map character) (digits_halves b m n high low h) ∙ map-append character (digits b m high) (digits b n low)

pub length_digit_text : (b n x : ℕ) → length (digit_text b n x) ≡ n
unfolding digit_text
length_digit_text b n x = length-map (digits b n x) character ∙ length_digits b n x

-- a number below 10 ^ suc k has at most suc k decimal digits
pub width_below : (x k : ℕ) → x < 10 ^ suc k → decimal_width x ≤ suc k
unfolding decimal_width short_enough
width_below x k h = go (ltb k (least 19 (short_enough x))) refl
  where
    go : (t : Bool) → ltb k (least 19 (short_enough x)) ≡ t → suc (least 19 (short_enough x)) ≤ suc k
    go true e = absurd (false≢true (sym (least_first 19 (short_enough x) k (ltb-true k (least 19 (short_enough x)) e)) ∙ lt-ltb x (10 ^ suc k) h))
    go false e = omega (arith, ltb-false k (least 19 (short_enough x)) e)

-- a number below 10 ^ suc k and not below 10 ^ k has exactly suc k decimal digits
pub width_is : (x k n : ℕ) → n ≡ k + 1 → k < 20 → x < 10 * 10 ^ k → 10 ^ k ≤ max x 1 → n ≡ decimal_width x
unfolding decimal_width short_enough
width_is x k n e fits short long =
    let m = least 19 (short_enough x) in
    let up : 10 ^ suc k ≡ 10 * 10 ^ k = pow-suc 10 k ∙ mul_comm (10 ^ k) 10 in
    let not_more : k < m → ⊥ = λ h. omega (arith, up, ltb-false x (10 ^ suc k) (least_first 19 (short_enough x) k h)) in
    let not_less : m < k → ⊥ =
    λ h.
    let under : x < 10 ^ suc m = ltb-true x (10 ^ suc m) (least_passes 19 (short_enough x) (omega arith)) in
    let to_k : 10 ^ suc m ≤ 10 ^ k = pow-le-pow_right (lit< tt) (omega arith) in
    let some : 1 ≤ k = omega arith in
    let ten : 10 ^ 1 ≤ 10 ^ k = pow-le-pow_right (lit< tt) some in
    omega arith in
    omega arith

-- a number below ten has one digit, itself
pub width_one : (x : ℕ) → x < 10 → decimal_width x ≡ 1
unfolding decimal_width short_enough least
width_one x small = ap suc (least_found 19 (short_enough x) 0 refl (lt-ltb x 10 small) (lit< tt))

pub decimal_one : (x : ℕ) → x < 10 → decimal x ≡ character x ∷ []
unfolding decimal digit_text digits
decimal_one x small = ap (λ (k : ℕ). digit_text 10 k x) (width_one x small) ∙ ap (λ (d : ℕ). character d ∷ []) (mod-eq_of_lt small)

pub decimal_below : (x k : ℕ) → x < 10 ^ suc k → length (decimal x) ≤ suc k
unfolding decimal
decimal_below x k h = rw (length_digit_text 10 (decimal_width x) x) (width_below x k h)

-- what a text says in base b, where the characters before it said x
abbrev pub read_from : ℕ → ℕ → List ℕ → Option ℕ
read_from b x l = cond (all_of (is_digit b) l) (Some (number_from b x (map digit l))) None

pub read_start : (b : ℕ) (l : List ℕ) → read_from b 0 l ≡ read_digits b l
unfolding read_digits number
read_start b l = refl

pub read_next : (b x : ℕ) (l : List ℕ) (i : ℕ) → i < length l → digit (get_or l i 0) < b
    → read_from b (x * b + digit (get_or l i 0)) (drop (i + 1) l) ≡ read_from b x (drop i l)
unfolding all_of is_digit number_from
read_next b x l i h k = rw (add-one, drop-cons l i 0 h, lt-ltb _ _ k)

pub read_stop : (b x : ℕ) (l : List ℕ) (i : ℕ) → i < length l → b ≤ digit (get_or l i 0) → read_from b x (drop i l) ≡ None
unfolding all_of is_digit
read_stop b x l i h k = rw (drop-cons l i 0 h, le-ltb _ _ k)

pub read_end : (b x : ℕ) (l : List ℕ) (i : ℕ) → length l ≤ i → read_from b x (drop i l) ≡ Some x
unfolding all_of number_from
read_end b x l i h = rw (drop_of_length-le l h)
