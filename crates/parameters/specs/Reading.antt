-- Reading the AN-parameters of a block one after another, from its start.
-- A reader keeps hold of the block of AN-parameters of a packet, and places count from the block's start.
use Rattle.std.specs.Prelude.{ℕ, zero, suc, ◌+◌, Bool, true, false, cond, List, [], ◌∷◌, leb, length, take, drop, Option, None, Some, Result, Ok, Err}
use Rattle.octets.specs.Part.{part}
use Rattle.parameters.specs.Parameters.{parameter_at, well_formed}
use Rattle.parameters.specs.declared.Parameter.{Parameter}
use Rattle.parameters.specs.declared.Broken.{Broken}

-- an AN-parameter: its type and the octets of its value
pub record AnParameter : Type 0 where
  pub kind : ℕ
  pub value : List ℕ

-- an AN-parameter as it is written: its type, how many octets its value has, and its value
unfoldable pub parameter_octets : AnParameter → List ℕ
parameter_octets p = p.kind ∷ length p.value ∷ p.value

-- the whole AN-parameters that follow one another from the start of a list, at most n
unfoldable pub an_parameters_in : ℕ → List ℕ → List AnParameter
an_parameters_in zero l = []
an_parameters_in (suc n) [] = []
an_parameters_in (suc n) (type ∷ []) = []
an_parameters_in (suc n) (type ∷ size ∷ rest) =
    cond (leb size (length rest)) (record { kind = type; value = take size rest } ∷ an_parameters_in n (drop size rest)) []

-- the AN-parameters of a block, in order, at most as many as it has octets
unfoldable pub an_parameters : List ℕ → List AnParameter
an_parameters l = an_parameters_in (length l) l

-- a reading: an AN-parameter, the end of the block, or one that runs past the end
pub data Reading : Type 0 where
  parameter : AnParameter → Reading
  finished : Reading
  broken : Reading

-- the reading of what stands at a place of a block
unfoldable pub reading_of : List ℕ → Result (Option Parameter) Broken → Reading
reading_of l (Ok (Some p)) = parameter (record { kind = p.kind; value = part l p.start p.length })
reading_of l (Ok None) = finished
reading_of l (Err e) = broken

-- a whole AN-parameter, behind which a reader goes on
unfoldable pub is_whole : Result (Option Parameter) Broken → Bool
is_whole (Ok (Some p)) = true
is_whole (Ok None) = false
is_whole (Err e) = false

-- the place behind what stands at a place: the next one behind a whole AN-parameter, else the same
unfoldable pub behind : ℕ → Result (Option Parameter) Broken → ℕ
behind at (Ok (Some p)) = p.next
behind at (Ok None) = at
behind at (Err e) = at

-- the place that a reader at a place of a block reaches next
unfoldable pub place_after : List ℕ → ℕ → ℕ
place_after l at = behind at (parameter_at l at)

-- at most n readings from a place on, up to the first that is not whole
unfoldable pub readings_from : ℕ → List ℕ → ℕ → List Reading
readings_from zero l at = []
readings_from (suc n) l at = reading_of l (parameter_at l at) ∷ cond (is_whole (parameter_at l at)) (readings_from n l (place_after l at)) []

-- the readings from the start of a block, at most one more than it has octets
unfoldable pub readings : List ℕ → List Reading
readings l = readings_from (length l + 1) l 0

-- the last reading: the end of a well-formed block, and a broken AN-parameter in any other
unfoldable pub ending : List ℕ → Reading
ending l = cond (well_formed l) finished broken
