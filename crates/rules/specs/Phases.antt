-- What the rules ask of a phase.
use Rattle.std.specs.Prelude.{ℕ, Bool, true, false, ◌||◌, Option, None, Some}
use Rattle.phase.specs.Stage.{is_in}
use Rattle.phase.specs.Stage as Stage
use Rattle.phase.specs.declared.Phase.{Phase}
use Rattle.phase.specs.declared.Phase.TheVariants.{Idle, Country, Name, Chosen, Init, Auth, Eap, Sure, Live}
use Rattle.phase.specs.declared.Turn.{Turn}
use Rattle.phase.specs.declared.Turn.TheVariants.{First, Owed, Answered}
use Rattle.place.specs.declared.Facts.{Facts}

-- the phases auth, eap and sure
unfoldable pub underway : Phase → Bool
underway p = is_in Stage.auth p || is_in Stage.eap p || is_in Stage.sure p

-- the place facts while DNS runs
unfoldable pub facts_in : Phase → Option Facts
facts_in Idle = None
facts_in (Country f) = Some f
facts_in (Name f) = Some f
facts_in (Chosen a) = None
facts_in (Init a) = None
facts_in (Auth a) = None
facts_in (Eap a t) = None
facts_in (Sure a) = None
facts_in (Live a) = None

-- identifiers during EAP
unfoldable pub turn_in : Phase → Option Turn
turn_in Idle = None
turn_in (Country f) = None
turn_in (Name f) = None
turn_in (Chosen a) = None
turn_in (Init a) = None
turn_in (Auth a) = None
turn_in (Eap a t) = Some t
turn_in (Sure a) = None
turn_in (Live a) = None

-- the first reply of a session is still to come
unfoldable pub is_first : Option Turn → Bool
is_first None = false
is_first (Some (First i)) = true
is_first (Some (Owed i)) = false
is_first (Some (Answered i)) = false

-- the identifier that is owed
unfoldable pub owed : Option Turn → Option ℕ
owed None = None
owed (Some (First i)) = Some i
owed (Some (Owed i)) = Some i
owed (Some (Answered i)) = None

-- the identifier of the last reply, where none is owed
unfoldable pub last_reply : Option Turn → Option ℕ
last_reply None = None
last_reply (Some (First i)) = None
last_reply (Some (Owed i)) = None
last_reply (Some (Answered i)) = Some i
