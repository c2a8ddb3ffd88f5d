-- AN-parameters: each is a type octet, a length octet and that many octets.
use Rattle.std.specs.Prelude.{ℕ, zero, suc, ◌+◌, Bool, true, false, cond, ◌&&◌, List, [], ◌∷◌, leb, eqb, length, drop, Option, None, Some, Result, Ok, Err}
use Rattle.octets.specs.Digits.{field}
use Rattle.parameters.specs.declared.Parameter.{Parameter}
use Rattle.parameters.specs.declared.Broken.{Broken}

-- AN-parameters have 0 to 1,024 octets in all
abbrev pub most_parameters : ℕ
most_parameters = 1024

-- at most n AN-parameters follow one another and end exactly with the list
unfoldable pub well_formed_in : ℕ → List ℕ → Bool
well_formed_in zero [] = true
well_formed_in zero (type ∷ rest) = false
well_formed_in (suc n) [] = true
well_formed_in (suc n) (type ∷ []) = false
well_formed_in (suc n) (type ∷ size ∷ rest) = leb size (length rest) && well_formed_in n (drop size rest)

-- a block is AN-parameters that end exactly, at most as many as it has octets
unfoldable pub well_formed : List ℕ → Bool
well_formed l = well_formed_in (length l) l

-- how many octets the value of the AN-parameter at a place has
unfoldable pub size : List ℕ → ℕ → ℕ
size l at = field l (at + 1) 1

-- a whole AN-parameter at a place of a block: its type, where its value starts, how long that is, and the next place
abbrev pub whole_at : List ℕ → ℕ → Parameter
whole_at l at = record { kind = field l at 1; start = at + 2; length = size l at; next = at + 2 + size l at }

-- an AN-parameter that runs past the end of its block, or a place past the end
abbrev pub overrun : Result (Option Parameter) Broken
overrun = Err (record {})

-- what stands at a place of a block: a whole AN-parameter, none at the end, or a broken one where it runs past the end or the place is past it
unfoldable pub parameter_at : List ℕ → ℕ → Result (Option Parameter) Broken
parameter_at l at =
    cond (eqb at (length l)) (Ok None)
    (cond (leb (at + 2) (length l) && leb (at + 2 + size l at) (length l)) (Ok (Some (whole_at l at))) overrun)
