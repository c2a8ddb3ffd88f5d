-- A phase in octets: its number, and its own data with zeros behind them.
use Rattle.std.specs.Prelude.{ℕ, ◌+◌, Bool, true, false, cond, ◌&&◌, List, ◌++◌, leb, eqb}
use Rattle.octets.specs.Digits.{be, field}
use Rattle.octets.specs.Part.{zeros, zeros_at}
use Rattle.address.specs.declared.Address.{Address}
use Rattle.addresses.specs.Addresses.{address_octets, address_from, is_address}
use Rattle.place.specs.declared.Facts.{Facts}
use Rattle.place.specs.declared.Place.{Place}
use Rattle.phase.specs.Facts.{facts_octets, facts_from, facts_fit, facts_written}
use Rattle.phase.specs.Stage.{stage_number}
use Rattle.phase.specs.Stage as Stage
use Rattle.phase.specs.declared.Phase.{Phase}
use Rattle.phase.specs.declared.Phase.TheVariants.{Idle, Country, Name, Chosen, Init, Auth, Eap, Sure, Live}
use Rattle.phase.specs.declared.Turn.{Turn}
use Rattle.phase.specs.declared.Turn.TheVariants.{First, Owed, Answered}

-- the octets of a phase
abbrev pub phase_length : ℕ
phase_length = 20

-- the place facts while DNS runs
unfoldable pub asking_octets : ℕ → Facts → List ℕ
asking_octets n f = be 1 n ++ facts_octets f ++ zeros 10

-- the chosen address from then on
unfoldable pub having_octets : ℕ → Address → List ℕ
having_octets n a = be 1 n ++ address_octets a ++ zeros 2

-- identifiers during EAP
unfoldable pub turn_octets : Turn → List ℕ
turn_octets (First i) = be 1 1 ++ be 1 i
turn_octets (Owed i) = be 1 2 ++ be 1 i
turn_octets (Answered i) = be 1 3 ++ be 1 i

unfoldable pub phase_octets : Phase → List ℕ
phase_octets Idle = zeros phase_length
phase_octets (Country f) = asking_octets (stage_number Stage.country) f
phase_octets (Name f) = asking_octets (stage_number Stage.name) f
phase_octets (Chosen a) = having_octets (stage_number Stage.chosen) a
phase_octets (Init a) = having_octets (stage_number Stage.init) a
phase_octets (Auth a) = having_octets (stage_number Stage.auth) a
phase_octets (Eap a t) = be 1 (stage_number Stage.eap) ++ address_octets a ++ turn_octets t
phase_octets (Sure a) = having_octets (stage_number Stage.sure) a
phase_octets (Live a) = having_octets (stage_number Stage.live) a

-- the phase at a place
unfoldable pub turn_from : List ℕ → ℕ → Turn
turn_from l at =
    let i = field l (at + 1) 1 in
    cond (eqb (field l at 1) 1) (First i) (cond (eqb (field l at 1) 2) (Owed i) (Answered i))

-- a phase that keeps an address, by its number
unfoldable pub having_from : List ℕ → ℕ → ℕ → Phase
having_from l at n =
    let a = address_from l (at + 1) in
    cond (eqb n (stage_number Stage.chosen)) (Chosen a)
    (cond (eqb n (stage_number Stage.init)) (Init a)
    (cond (eqb n (stage_number Stage.auth)) (Auth a) (cond (eqb n (stage_number Stage.eap)) (Eap a (turn_from l (at + 18))) (cond (eqb n (stage_number Stage.sure)) (Sure a) (Live a)))))

-- a number above the last one is no phase, which `phase_written` says
unfoldable pub phase_from : List ℕ → ℕ → Phase
phase_from l at =
    let n = field l at 1 in
    let f = facts_from l (at + 1) in
    cond (eqb n (stage_number Stage.idle)) Idle
    (cond (eqb n (stage_number Stage.country)) (Country f) (cond (eqb n (stage_number Stage.name)) (Name f) (having_from l at n)))

-- phase country only abroad
unfoldable pub is_abroad : Place → Bool
is_abroad (Place.Abroad mcc) = true
is_abroad _ = false

-- the facts that a phase keeps are in their ranges
unfoldable pub phase_fits : Phase → Bool
phase_fits (Country f) = facts_fit f && is_abroad f.place
phase_fits (Name f) = facts_fit f
phase_fits _ = true

-- a number that there is, and zeros in what its phase does not use
unfoldable pub turn_written : List ℕ → ℕ → Bool
turn_written l at = leb 1 (field l at 1) && leb (field l at 1) 3

unfoldable pub phase_written : List ℕ → ℕ → Bool
phase_written l at =
    let n = field l at 1 in
    cond (eqb n (stage_number Stage.idle)) (zeros_at l (at + 1) 19)
    (cond (leb n (stage_number Stage.name)) (facts_written l (at + 1) && zeros_at l (at + 10) 10)
    (cond (eqb n (stage_number Stage.eap)) (is_address l (at + 1) && turn_written l (at + 18))
    (leb n (stage_number Stage.live) && is_address l (at + 1) && zeros_at l (at + 18) 2)))

-- a phase stands at a place
unfoldable pub is_phase : List ℕ → ℕ → Bool
is_phase l at = phase_written l at && phase_fits (phase_from l at)
