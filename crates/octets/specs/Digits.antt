-- Numbers written in a base, the most significant digit first. Octets are digits in base 256.
use Rattle.std.specs.Prelude.{ℕ, zero, suc, ◌+◌, ◌*◌, ◌/◌, ◌%◌, List, [], ◌∷◌, ◌++◌}
use Rattle.octets.specs.Part.{part}

-- the n digits of x in base b; what stands above them is cut off
unfoldable pub digits : ℕ → ℕ → ℕ → List ℕ
digits b zero x = []
digits b (suc n) x = digits b n (x / b) ++ x % b ∷ []

-- the number that digits in base b say, where those before them said x
unfoldable pub number_from : ℕ → ℕ → List ℕ → ℕ
number_from b x [] = x
number_from b x (d ∷ ds) = number_from b (x * b + d) ds

-- the number that digits in base b say
unfoldable pub number : ℕ → List ℕ → ℕ
number b ds = number_from b 0 ds

-- the number that octets say, the least significant first
unfoldable pub low : List ℕ → ℕ
low [] = 0
low (d ∷ ds) = d + low ds * 256

-- the highest number of one octet
abbrev pub most_octet : ℕ
most_octet = 255

-- n big-endian octets of x
unfoldable pub be : ℕ → ℕ → List ℕ
be n x = digits 256 n x

-- the number that the n octets from a place say
unfoldable pub field : List ℕ → ℕ → ℕ → ℕ
field l at n = number 256 (part l at n)
