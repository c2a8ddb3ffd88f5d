-- Numbers and their texts are read and written back, whole and half by half; the function `laws` promises it.
use Rattle.std.specs.Prelude.{ℕ, ◌+◌, ◌*◌, ◌^◌, ◌≤◌, ◌<◌, List, ◌++◌, ◌≡◌, length, Option, None, Some}
use Rattle.text.specs.Text.{digit_text, read_digits}

-- the number of two halves, where each says one and the second is below p
unfoldable pub halves : ℕ → Option ℕ → Option ℕ → Option ℕ
halves p None y = None
halves p (Some x) None = None
halves p (Some x) (Some y) = Some (x * p + y)

pub record Laws : Type 0 where
  -- a written text is read as its number
  pub read_text : (b n x : ℕ) → b ≤ 16 → x < b ^ n → read_digits b (digit_text b n x) ≡ Some x
  -- a text that is read is written back
  pub write_text : (b x : ℕ) (l : List ℕ) → b ≤ 16 → read_digits b l ≡ Some x → digit_text b (length l) x ≡ l
  -- a text of two halves is read half by half
  pub read_halves : (b : ℕ) (l m : List ℕ) → read_digits b (l ++ m) ≡ halves (b ^ length m) (read_digits b l) (read_digits b m)
  -- a number of two halves is written half by half
  pub text_halves : (b m n high low : ℕ) → low < b ^ n → digit_text b (m + n) (high * b ^ n + low) ≡ digit_text b m high ++ digit_text b n low
