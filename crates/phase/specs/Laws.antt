-- Writing and reading phases undo each other; the function `laws` promises it.
use Rattle.std.specs.Prelude.{ℕ, ◌+◌, ◌≤◌, Bool, true, ◌&&◌, List, ◌≡◌, ltb, length}
use Rattle.octets.specs.Laws.{below}
use Rattle.octets.specs.Part.{part}
use Rattle.octets.specs.Search.{all_of}
use Rattle.addresses.specs.Laws.{address_storable}
use Rattle.phase.specs.Phase.{phase_fits, phase_from, phase_length, phase_octets, phase_written}
use Rattle.phase.specs.Standing.{bare, restored}
use Rattle.phase.specs.declared.Phase.{Phase}
use Rattle.phase.specs.declared.Phase.TheVariants.{Chosen, Init, Auth, Eap, Sure, Live}
use Rattle.phase.specs.declared.Turn.{Turn}
use Rattle.phase.specs.declared.Turn.TheVariants.{First, Owed, Answered}

-- an identifier of one octet
unfoldable pub turn_storable : Turn → Bool
turn_storable (First i) = ltb i 256
turn_storable (Owed i) = ltb i 256
turn_storable (Answered i) = ltb i 256

-- a phase whose address and identifier fit their octets; place facts fit theirs by `phase_fits`
unfoldable pub phase_storable : Phase → Bool
phase_storable (Chosen a) = address_storable a
phase_storable (Init a) = address_storable a
phase_storable (Auth a) = address_storable a
phase_storable (Eap a t) = address_storable a && turn_storable t
phase_storable (Sure a) = address_storable a
phase_storable (Live a) = address_storable a
phase_storable _ = true

pub record Laws : Type 0 where
  -- every phase has the same count of octets
  pub octet_count : (p : Phase) → length (phase_octets p) ≡ phase_length
  -- a phase in range is read back from its octets
  pub read_back : (l : List ℕ) (at : ℕ) (p : Phase) → phase_fits p ≡ true → phase_storable p ≡ true → part l at phase_length ≡ phase_octets p
      → (phase_from l at ≡ p) × (phase_written l at ≡ true)
  -- a phase is written back as the octets that it was read from
  pub write_back : (l : List ℕ) (at : ℕ) → all_of (below 256) l ≡ true → at + phase_length ≤ length l → phase_written l at ≡ true
      → part l at phase_length ≡ phase_octets (phase_from l at)
  -- a phase that is read from octets has an address and an identifier that fit theirs
  pub storable : (l : List ℕ) (at : ℕ) → all_of (below 256) l ≡ true → at + phase_length ≤ length l → phase_storable (phase_from l at) ≡ true
  -- a phase that is known bare is restored to itself
  pub restored_bare : (p : Phase) → restored p (bare p) ≡ p
