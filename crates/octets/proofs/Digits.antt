-- The laws of numbers in a base, over the base and the count of digits.
use Prim.Native.Nat.{ℕ, zero, suc, ◌+◌, ◌-◌, ◌*◌, ◌/◌, ◌%◌, ◌^◌, ◌≤◌, ◌<◌, zero-le}
use mathlib.Core.Bool.{Bool, true, false, ◌&&◌}
use mathlib.Core.List.{List, [], ◌∷◌, ◌++◌, append_assoc, append-nil}
use mathlib.Core.Path.{◌≡◌, refl, sym, ap, ap₂, ◌∙◌, subst}
use native.Mathlib.Nat.{add-zero, add-suc, zero-mul, zero-add, mul-one, pow-zero, pow-suc, pow-succ', div-add-mod', div-lt_iff_lt-mul, mod-lt, mod-eq_of_lt, mul_assoc, not-suc-le-zero, zero-lt-suc, lt_of_le_of_lt, lt_of_lt_of_le, pow-le-pow_right, mul-zero}
use native.Mathlib.Numerals.{add-one, one-add}
use native.Mathlib.Omega.{arith}
use lib.Arith.{digits_div, digits_mod, digits_lt, lt-one}
use lib.Dec.{ltb, eqb}
use lib.ListN.{length, get_or, drop, length-append, drop_of_length-le}
use lib.Seq.{drop-cons}
use borrow.Author.Tests.{ltb-true, eqb-true, eqb-false, eq-eqb}
use Rattle.octets.specs.Digits.{digits, number_from, number}
use Rattle.octets.specs.Laws.{below}
use Rattle.octets.specs.Search.{all_of}
use Rattle.octets.proofs.Search.{and_left, and_right, and_true}

pub length_digits : (b n x : ℕ) → length (digits b n x) ≡ n
unfolding digits
length_digits b zero x = refl
length_digits b (suc n) x =
    length-append (digits b n (x / b)) (x % b ∷ []) ∙ ap (λ (k : ℕ). k + 1) (length_digits b n (x / b)) ∙ add-one n

pub number_from_append : (b x : ℕ) (ds es : List ℕ) → number_from b x (ds ++ es) ≡ number_from b (number_from b x ds) es
unfolding number_from
number_from_append b x [] es = refl
number_from_append b x (d ∷ ds) es = number_from_append b (x * b + d) ds es

shift : (b x d p : ℕ) (k : ℕ) → (x * b + d) * p + k ≡ x * (b * p) + (d * p + k)
shift b x d p k = omega arith

-- the digits before a list count by the base's power
pub number_from_split : (b x : ℕ) (ds : List ℕ) → number_from b x ds ≡ x * b ^ length ds + number b ds
unfolding number_from number
number_from_split b x [] = sym (ap (λ (k : ℕ). x * k + 0) (pow-zero b) ∙ add-zero (x * 1) ∙ mul-one x)
number_from_split b x (d ∷ ds) =
    number_from_split b (x * b + d) ds
    ∙ shift b x d (b ^ length ds) (number b ds)
    ∙ ap₂ (λ (k m : ℕ). x * k + m) (sym (pow-succ' b (length ds)))
    (sym (number_from_split b (0 * b + d) ds ∙ ap (λ (k : ℕ). k * b ^ length ds + number b ds) (ap (λ (k : ℕ). k + d) (zero-mul b) ∙ zero-add d)))

pub number_halves : (b : ℕ) (ds es : List ℕ) → number b (ds ++ es) ≡ number b ds * b ^ length es + number b es
unfolding number
number_halves b ds es = number_from_append b 0 ds es ∙ number_from_split b (number b ds) es

-- the first digit counts by the base's power
pub number_cons : (b d : ℕ) (ds : List ℕ) → number b (d ∷ ds) ≡ d * b ^ length ds + number b ds
unfolding number_from number
number_cons b d ds =
    number_from_split b (0 * b + d) ds
    ∙ ap (λ (k : ℕ). k * b ^ length ds + number b ds) (ap (λ (k : ℕ). k + d) (zero-mul b) ∙ zero-add d)

-- a number of n digits is below the base's power
pub number_below : (b : ℕ) (ds : List ℕ) → all_of (below b) ds ≡ true → number b ds < b ^ length ds
unfolding all_of below number number_from
number_below b [] e = subst (λ (k : ℕ). 0 < k) (sym (pow-zero b)) (zero-lt-suc 0)
number_below b (d ∷ ds) e =
    let here : d < b = ltb-true d b (and_left (ltb d b) (all_of (below b) ds) e) in
    subst (λ (k : ℕ). k < b ^ suc (length ds)) (sym (number_cons b d ds))
    (subst (λ (k : ℕ). d * b ^ length ds + number b ds < k) (sym (pow-succ' b (length ds)))
    (digits_lt here (number_below b ds (and_right (ltb d b) (all_of (below b) ds) e))))

-- only a base above 0 has numbers of one digit or more
pub base_positive : (b n x : ℕ) → x < b ^ suc n → 0 < b
base_positive zero n x h = absurd (not-suc-le-zero (subst (λ (k : ℕ). x < k) (pow-suc 0 n ∙ mul-zero (0 ^ n)) h))
base_positive (suc b) n x h = zero-lt-suc b

-- all but the last digit
upper_below : (b n x : ℕ) → x < b ^ suc n → x / b < b ^ n
upper_below b n x h = (div-lt_iff_lt-mul (base_positive b n x h)).1 (subst (λ (k : ℕ). x < k) (pow-suc b n) h)

pub number_digits : (b n x : ℕ) → x < b ^ n → number b (digits b n x) ≡ x
unfolding digits number number_from
number_digits b zero x h = sym (lt-one (subst (λ (k : ℕ). x < k) (pow-zero b) h))
number_digits b (suc n) x h =
    number_from_append b 0 (digits b n (x / b)) (x % b ∷ [])
    ∙ ap (λ (k : ℕ). k * b + x % b) (number_digits b n (x / b) (upper_below b n x h))
    ∙ div-add-mod' x b

-- a number of two halves: all but its last digit, and the last
lower : (b p high low : ℕ) → high * (p * b) + low ≡ (high * p + low / b) * b + low % b
lower b p high low = omega (arith, div-add-mod' low b)

pub digits_halves : (b m n high low : ℕ) → low < b ^ n → digits b (m + n) (high * b ^ n + low) ≡ digits b m high ++ digits b n low
unfolding digits
digits_halves b m zero high low h =
    ap₂ (digits b) (add-zero m) (ap₂ (λ (k l : ℕ). high * k + l) (pow-zero b) (lt-one (subst (λ (k : ℕ). low < k) (pow-zero b) h)) ∙ add-zero (high * 1) ∙ mul-one high)
    ∙ sym (append-nil (digits b m high))
digits_halves b m (suc n) high low h =
    let positive : 0 < b = base_positive b n low h in
    let whole : high * b ^ suc n + low ≡ (high * b ^ n + low / b) * b + low % b = ap (λ (k : ℕ). high * k + low) (pow-suc b n) ∙ lower b (b ^ n) high low in
    ap₂ (digits b) (add-suc m n) whole
    ∙ ap₂ (λ (x d : ℕ). digits b (m + n) x ++ d ∷ []) (digits_div (high * b ^ n + low / b) (mod-lt low positive)) (digits_mod (high * b ^ n + low / b) (mod-lt low positive))
    ∙ ap (λ (l : List ℕ). l ++ low % b ∷ []) (digits_halves b m n high (low / b) (upper_below b n low h))
    ∙ append_assoc (digits b m high) (digits b n (low / b)) (low % b ∷ [])

-- two numbers of two halves are equal exactly if both halves are
pub halves_same : (b h l i m : ℕ) → l < b → m < b → eqb h i && eqb l m ≡ eqb (h * b + l) (i * b + m)
halves_same b h l i m p q = go (eqb (h * b + l) (i * b + m)) refl
  where
    go : (t : Bool) → eqb (h * b + l) (i * b + m) ≡ t → eqb h i && eqb l m ≡ t
    go true e =
        let same = eqb-true (h * b + l) (i * b + m) e in
        and_true (eqb h i) (eqb l m) (eq-eqb h i (sym (digits_div h p) ∙ ap (λ (x : ℕ). x / b) same ∙ digits_div i q))
        (eq-eqb l m (sym (digits_mod h p) ∙ ap (λ (x : ℕ). x % b) same ∙ digits_mod i q))
    go false e = both (eqb h i) refl (eqb l m) refl
      where
        both : (s : Bool) → eqb h i ≡ s → (t : Bool) → eqb l m ≡ t → s && t ≡ false
        both true f true g = absurd (eqb-false (h * b + l) (i * b + m) e (ap₂ (λ (x y : ℕ). x * b + y) (eqb-true h i f) (eqb-true l m g)))
        both true f false g = refl
        both false f t g = refl

-- a digit is written as itself
one_digit : (b d : ℕ) → d < b → digits b 1 d ≡ d ∷ []
unfolding digits
one_digit b d h = ap (λ (k : ℕ). k ∷ []) (mod-eq_of_lt h)

pub digits_number : (b : ℕ) (ds : List ℕ) → all_of (below b) ds ≡ true → digits b (length ds) (number b ds) ≡ ds
unfolding all_of below digits
digits_number b [] e = refl
digits_number b (d ∷ ds) e =
    let here : d < b = ltb-true d b (and_left (ltb d b) (all_of (below b) ds) e) in
    let rest : all_of (below b) ds ≡ true = and_right (ltb d b) (all_of (below b) ds) e in
    ap₂ (digits b) (sym (one-add (length ds))) (number_cons b d ds)
    ∙ digits_halves b 1 (length ds) d (number b ds) (number_below b ds rest)
    ∙ ap₂ (λ (l m : List ℕ). l ++ m) (one_digit b d here) (digits_number b ds rest)

-- one digit more stays below the base's power
pub digit_more : (b i x d : ℕ) → x < b ^ i → d < b → x * b + d < b ^ (i + 1)
digit_more b i x d h k = subst (λ (p : ℕ). x * b + d < p) (sym (ap (λ (m : ℕ). b ^ m) (add-one i) ∙ pow-suc b i)) (digits_lt h k)

-- one digit more stays below every larger power of the base
pub digit_fits : (b m i x d : ℕ) → x < b ^ i → d < b → i < m → x * b + d < b ^ m
digit_fits b m i x d h k l = lt_of_lt_of_le (digit_more b i x d h k) (pow-le-pow_right (lt_of_le_of_lt zero-le k) (omega arith))

-- reading the next digit of a list
pub number_step : (b x : ℕ) (l : List ℕ) (i : ℕ) → i < length l → number_from b x (drop i l) ≡ number_from b (x * b + get_or l i 0) (drop (i + 1) l)
unfolding number_from
number_step b x l i h = rw (add-one, drop-cons l i 0)

-- nothing is left after the last digit
pub number_end : (b x : ℕ) (l : List ℕ) (i : ℕ) → length l ≤ i → number_from b x (drop i l) ≡ x
unfolding number_from
number_end b x l i h = ap (number_from b x) (drop_of_length-le l h)

-- the last digit comes after those of the rest
pub digits_last : (b n x : ℕ) → 0 < n → digits b n x ≡ digits b (n - 1) (x / b) ++ x % b ∷ []
unfolding digits
digits_last b zero x h = absurd (not-suc-le-zero h)
digits_last b (suc n) x h =
    let e : n ≡ suc n - 1 = omega arith in
    ap (λ (k : ℕ). digits b k (x / b) ++ x % b ∷ []) e

-- two digits are one of the base squared
pub digit_pairs : (b n : ℕ) → b ^ (2 * n) ≡ (b * b) ^ n
digit_pairs b zero = pow-zero b ∙ sym (pow-zero (b * b))
digit_pairs b (suc n) =
    let e : 2 * suc n ≡ suc (suc (2 * n)) = omega arith in
    ap (λ (k : ℕ). b ^ k) e ∙ pow-suc b (suc (2 * n)) ∙ ap (λ (k : ℕ). k * b) (pow-suc b (2 * n)) ∙ ap (λ (k : ℕ). k * b * b) (digit_pairs b n)
    ∙ mul_assoc ((b * b) ^ n) b b ∙ sym (pow-suc (b * b) n)
