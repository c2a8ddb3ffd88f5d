-- Texts that are stored from a place on.
use Rattle.std.specs.Prelude.{ℕ, ◌+◌, ◌≤◌, List, ◌≡◌, length}
use Rattle.octets.specs.Part.{Wrote}

-- a number has at most so many decimal digits
abbrev pub number_room : ℕ
number_room = 20

-- a text fits from a place on, and any number behind it
pub record Fits (l : List ℕ) (at : ℕ) (vs : List ℕ) : Type 0 where
  pub room : at + length vs + number_room ≤ length l

-- m is l with a text stored from a place on, and next is the place behind the text
pub record Put (l : List ℕ) (at : ℕ) (vs m : List ℕ) (next : ℕ) : Type 0 where
  pub wrote : Wrote l at vs m
  pub behind : next ≡ at + length vs
