-- The number of each refusal (document 01's table of refusal numbers), and of a result that may be one.
use Rattle.std.specs.Prelude.{ℕ, Result, Ok, Err}
use Rattle.refusal.specs.declared.Refusal.{Refusal}

-- the refusals are numbered from 1 in their order
abbrev pub number_of : Refusal → ℕ
number_of Refusal.Table = 1
number_of Refusal.Pair = 2
number_of Refusal.Buffer = 3
number_of Refusal.Open = 4
number_of Refusal.NotOpen = 5
number_of Refusal.Full = 6
number_of Refusal.Early = 7
number_of Refusal.Range = 8
number_of Refusal.Malformed = 9
number_of Refusal.Phase = 10
number_of Refusal.Spi = 11
number_of Refusal.Children = 12
number_of Refusal.Holds = 13

-- the number of the refusal, 0 where there is none
abbrev pub number_in : {A : Type 0} → Result A Refusal → ℕ
number_in (Ok a) = 0
number_in (Err r) = number_of r
