-- Fields of the configuration text.
use Rattle.std.specs.Prelude.{ℕ, Bool, cond, ◌&&◌, ◌||◌, List, leb, eqb, length, Option, None, Some}
use Rattle.octets.specs.Part.{same}
use Rattle.octets.specs.Search.{all_of}
use Rattle.text.specs.Text.{read_digits, decimal}
use Rattle.network.specs.declared.Plmn.{Plmn}

-- a PLMN from its two numbers, where both fields are numbers
unfoldable pub plmn_from : Option ℕ → Option ℕ → Option Plmn
plmn_from None n = None
plmn_from (Some m) None = None
plmn_from (Some m) (Some n) = Some (record { mcc = m; mnc = n })

-- MCC has three digits, MNC two or three; a PLMN is kept as numbers, so that 01 equals 001
unfoldable pub plmn_of : List ℕ → List ℕ → Option Plmn
plmn_of mcc mnc =
    cond (eqb (length mcc) 3 && (eqb (length mnc) 2 || eqb (length mnc) 3)) (plmn_from (read_digits 10 mcc) (read_digits 10 mnc)) None

-- the greatest number that a priority is
abbrev pub most_priority : ℕ
most_priority = 255

-- a number up to the greatest priority that is spelt as it is written in decimal
unfoldable pub plain : List ℕ → Option ℕ → Option ℕ
plain l None = None
plain l (Some x) = cond (leb x most_priority && same l (decimal x)) (Some x) None

-- a priority is 0 to 255 without leading zeros
unfoldable pub priority_of : List ℕ → Option ℕ
priority_of l = plain l (read_digits 10 l)

-- the most characters that a node name has
abbrev pub most_name : ℕ
most_name = 253

-- a letter of either case, a digit, a hyphen or a dot
unfoldable pub is_name_character : ℕ → Bool
is_name_character c =
    leb 97 c && leb c 122 || leb 65 c && leb c 90 || leb 48 c && leb c 57 || eqb c 45 || eqb c 46

-- a node name has 1 to 253 such characters
unfoldable pub is_name : List ℕ → Bool
is_name l = leb 1 (length l) && leb (length l) most_name && all_of is_name_character l
