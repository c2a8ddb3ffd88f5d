-- The chosen address of a phase: it is there from phase chosen on.
use Rattle.std.specs.Prelude.{Option, None, Some}
use Rattle.address.specs.declared.Address.{Address}
use Rattle.phase.specs.declared.Phase.{Phase}
use Rattle.phase.specs.declared.Phase.TheVariants.{Idle, Country, Name, Chosen, Init, Auth, Eap, Sure, Live}

-- the chosen address
unfoldable pub chosen : Phase → Option Address
chosen Idle = None
chosen (Country f) = None
chosen (Name f) = None
chosen (Chosen a) = Some a
chosen (Init a) = Some a
chosen (Auth a) = Some a
chosen (Eap a t) = Some a
chosen (Sure a) = Some a
chosen (Live a) = Some a
