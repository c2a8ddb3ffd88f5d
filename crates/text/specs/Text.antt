-- Texts as lists of octets: quoted ones, and numbers as lower-case digits.
use Rattle.std.specs.Prelude.{ℕ, suc, ◌+◌, ◌-◌, ◌^◌, Bool, cond, ◌&&◌, List, [], ◌∷◌, map, leb, ltb, Option, None, Some}
use Prim.Native.Char.{code}
use Prim.Native.String.{String}
use Prim.Native.String as S
use Rattle.octets.specs.Digits.{digits, number}
use Rattle.octets.specs.Search.{least, all_of}

-- the octets of a quoted text
unfoldable pub text : String → List ℕ
text S.[] = []
text (S.◌∷◌ c s) = code c ∷ text s

-- the character of a digit below 16: 0 to 9, then a to f
unfoldable pub character : ℕ → ℕ
character d = cond (ltb d 10) (48 + d) (87 + d)

-- the digit that a character stands for; 16, which is no digit, where it stands for none
unfoldable pub digit : ℕ → ℕ
digit c = cond (leb 48 c && leb c 57) (c - 48) (cond (leb 97 c && leb c 102) (c - 87) 16)

-- x in base b with exactly n characters
unfoldable pub digit_text : ℕ → ℕ → ℕ → List ℕ
digit_text b n x = map character (digits b n x)

-- a character is a digit in base b
unfoldable pub is_digit : ℕ → ℕ → Bool
is_digit b c = ltb (digit c) b

-- the number that a text says in base b, where each of its characters is a digit of that base
unfoldable pub read_digits : ℕ → List ℕ → Option ℕ
read_digits b l = cond (all_of (is_digit b) l) (Some (number b (map digit l))) None

-- x has at most k + 1 decimal digits
unfoldable pub short_enough : ℕ → ℕ → Bool
short_enough x k = ltb x (10 ^ suc k)

-- how many decimal digits a number of at most 64 bits has, 0 having one
unfoldable pub decimal_width : ℕ → ℕ
decimal_width x = suc (least 19 (short_enough x))

-- a number of at most 64 bits in decimal, without leading zeros
unfoldable pub decimal : ℕ → List ℕ
decimal x = digit_text 10 (decimal_width x) x
