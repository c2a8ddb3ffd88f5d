-- The phases by name, in the order of document 01's table 'Life of a line', and the number that each has in a record.
use Rattle.std.specs.Prelude.{ℕ, Bool, eqb}
use Rattle.phase.specs.declared.Phase.{Phase}
use Rattle.phase.specs.declared.Phase.TheVariants.{Idle, Country, Name, Chosen, Init, Auth, Eap, Sure, Live}

-- a phase without its data
pub data Stage : Type 0 where
  idle : Stage
  country : Stage
  name : Stage
  chosen : Stage
  init : Stage
  auth : Stage
  eap : Stage
  sure : Stage
  live : Stage

-- the number that stands in the octets of a phase
abbrev pub stage_number : Stage → ℕ
stage_number idle = 0
stage_number country = 1
stage_number name = 2
stage_number chosen = 3
stage_number init = 4
stage_number auth = 5
stage_number eap = 6
stage_number sure = 7
stage_number live = 8

abbrev pub stage_of : Phase → Stage
stage_of Idle = idle
stage_of (Country f) = country
stage_of (Name f) = name
stage_of (Chosen a) = chosen
stage_of (Init a) = init
stage_of (Auth a) = auth
stage_of (Eap a t) = eap
stage_of (Sure a) = sure
stage_of (Live a) = live

-- a line is in a phase
unfoldable pub is_in : Stage → Phase → Bool
is_in s p = eqb (stage_number (stage_of p)) (stage_number s)
