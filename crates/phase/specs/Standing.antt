-- What a phase says beside its place facts and its address, and how one phase goes on to another that keeps its address.
-- Start and the country and address answers are not told this way, since they write place facts or an address anew.
use Rattle.std.specs.Prelude.{ℕ, List, ◌≡◌, Option, None, Some}
use Rattle.octets.specs.Part.{part, Wrote}
use Rattle.address.specs.declared.Address.{Address}
use Rattle.address.specs.declared.Address.TheVariants.{V4}
use Rattle.place.specs.declared.Facts.{Facts}
use Rattle.place.specs.declared.Place.TheVariants as Place
use Rattle.phase.specs.Chosen.{chosen}
use Rattle.phase.specs.Phase.{phase_length, phase_octets}
use Rattle.phase.specs.Stage.{stage_number, stage_of}
use Rattle.phase.specs.Stage as Stage
use Rattle.phase.specs.declared.Phase.{Phase}
use Rattle.phase.specs.declared.Phase.TheVariants.{Idle, Country, Name, Chosen, Init, Auth, Eap, Sure, Live}
use Rattle.phase.specs.declared.Standing.{Standing}
use Rattle.phase.specs.declared.Turn.{Turn}
use Rattle.phase.specs.declared.Turn.TheVariants.{First, Owed, Answered}

-- the number of a phase alone
abbrev pub of_stage : Stage.Stage → Standing
of_stage s = record { stage = stage_number s; turn = 0; identifier = 0 }

-- how far an EAP session is, as its two octets say it
unfoldable pub turned : Turn → Standing
turned (First i) = record { stage = stage_number Stage.eap; turn = 1; identifier = i }
turned (Owed i) = record { stage = stage_number Stage.eap; turn = 2; identifier = i }
turned (Answered i) = record { stage = stage_number Stage.eap; turn = 3; identifier = i }

-- where a phase stands
unfoldable pub standing : Phase → Standing
standing (Eap a t) = turned t
standing p = of_stage (stage_of p)

-- what stands for an address, and for place facts of which only the local IP version is known
abbrev pub nowhere : Address
nowhere = V4 0

abbrev pub bare_facts : ℕ → Facts
bare_facts version = record { place = Place.Unknown; registered = None; version = version }

-- a phase of whose data only the local IP version and the identifiers are known
unfoldable pub bare : Phase → Phase
bare Idle = Idle
bare (Country f) = Country (bare_facts f.version)
bare (Name f) = Name (bare_facts f.version)
bare (Chosen a) = Chosen nowhere
bare (Init a) = Init nowhere
bare (Auth a) = Auth nowhere
bare (Eap a t) = Eap nowhere t
bare (Sure a) = Sure nowhere
bare (Live a) = Live nowhere

-- a phase with the chosen address; there is one wherever a phase goes on to one with an address
unfoldable pub placed : (Address → Phase) → Address → Option Address → Phase
placed f b None = f b
placed f b (Some a) = f a

-- the phase q with the address that p has; a phase with place facts is gone on to only by staying, and is p itself
unfoldable pub restored : Phase → Phase → Phase
restored p Idle = Idle
restored p (Country f) = p
restored p (Name f) = p
restored p (Chosen b) = placed Chosen b (chosen p)
restored p (Init b) = placed Init b (chosen p)
restored p (Auth b) = placed Auth b (chosen p)
restored p (Eap b t) = placed (λ a. Eap a t) b (chosen p)
restored p (Sure b) = placed Sure b (chosen p)
restored p (Live b) = placed Live b (chosen p)

-- the phase p goes on to q: it ends, it stays as it is and is known bare, or both have an address
pub data Continues : Phase → Phase → Type 0 where
  ends : {p : Phase} → Continues p Idle
  stays : {p : Phase} → Continues p (bare p)
  keeps : {p q : Phase} {a b : Address} → chosen p ≡ Some a → chosen q ≡ Some b → Continues p q

-- m is l with the phase p, which stands there, written over by the one that p goes on to and that stands so
abbrev pub Stood : List ℕ → ℕ → Standing → List ℕ → Type 0
Stood l at s m = (p q : Phase) → Continues p q → standing q ≡ s → part l at phase_length ≡ phase_octets p → Wrote l at (phase_octets (restored p q)) m
