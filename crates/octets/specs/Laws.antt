-- What holds of the definitions of this crate, for every width, base, test and list; the function `laws` promises it.
use Rattle.std.specs.Prelude.{ℕ, ◌+◌, ◌*◌, ◌^◌, ◌≤◌, ◌<◌, Bool, true, false, List, ◌++◌, ◌≡◌, ltb, length}
use Rattle.octets.specs.Digits.{digits, number}
use Rattle.octets.specs.Part.{same}
use Rattle.octets.specs.Search.{all, least, all_of}
use Rattle.octets.specs.Refusal.{Refusal, refusal, Rising, Applies}

-- d is a digit in base b
unfoldable pub below : ℕ → ℕ → Bool
below b d = ltb d b

pub record Laws : Type 0 where
  -- n digits say the number that they were written for
  pub number_digits : (b n x : ℕ) → x < b ^ n → number b (digits b n x) ≡ x
  -- digits are written back from the number that they say
  pub digits_number : (b : ℕ) (ds : List ℕ) → all_of (below b) ds ≡ true → digits b (length ds) (number b ds) ≡ ds
  -- a number of two halves is written half by half
  pub digits_halves : (b m n high low : ℕ) → low < b ^ n → digits b (m + n) (high * b ^ n + low) ≡ digits b m high ++ digits b n low
  -- digits of two halves are read half by half
  pub number_halves : (b : ℕ) (ds es : List ℕ) → number b (ds ++ es) ≡ number b ds * b ^ length es + number b es
  -- two lists hold the same octets exactly if they are equal
  pub same_equal : (l m : List ℕ) → same l m ≡ true → l ≡ m
  pub equal_same : (l : List ℕ) → same l l ≡ true
  -- `all` is about each number below its bound
  pub all_each : (n : ℕ) (p : ℕ → Bool) → all n p ≡ true → (k : ℕ) → k < n → p k ≡ true
  pub each_all : (n : ℕ) (p : ℕ → Bool) → ((k : ℕ) → k < n → p k ≡ true) → all n p ≡ true
  -- `least` is at most its bound, passes where it is below it, and nothing below it passes
  pub least_bound : (n : ℕ) (p : ℕ → Bool) → least n p ≤ n
  pub least_passes : (n : ℕ) (p : ℕ → Bool) → least n p < n → p (least n p) ≡ true
  pub least_first : (n : ℕ) (p : ℕ → Bool) (k : ℕ) → k < least n p → p k ≡ false
  -- where some number applies, the one given applies and is the lowest; where none does, it is 0
  pub refusal_lowest : (rs : List Refusal) → Rising 0 rs → (n : ℕ) → Applies n rs → Applies (refusal rs) rs × (refusal rs ≤ n)
  pub refusal_none : (rs : List Refusal) → ((n : ℕ) → Applies n rs → ⊥) → refusal rs ≡ 0
