-- What the number of a phase that stands in octets tells: the phase's name, and whether an address stands behind it.
use Rattle.std.specs.Prelude.{None, Some, ◌≡◌, ℕ, ◌+◌, ◌≤◌, ◌<◌, true, List}
use Rattle.std.proofs.Common.{arith}
use Rattle.std.proofs.lemmas.Bool.Decides.{nat_tests}
use Rattle.octets.specs.Digits.{field}
use Rattle.addresses.specs.Addresses.{address_from, is_address}
use Rattle.phase.specs.Chosen.{chosen}
use Rattle.phase.specs.Phase.{having_from, is_phase, phase_from, phase_written}
use Rattle.phase.specs.Stage.{stage_number, stage_of}

module _ (l : List ℕ) (at : ℕ) where
  abbrev k : ℕ
  k = field l at 1

  -- before an address is chosen
  pub none_at : k < 3 → chosen (phase_from l at) ≡ None
  unfolding chosen phase_from having_from
  none_at h = grind (arith, nat_tests)

  module _ (stands : is_phase l at ≡ true) where
    -- from then on
    pub chosen_at : 3 ≤ k → (chosen (phase_from l at) ≡ Some (address_from l (at + 1))) × (is_address l (at + 1) ≡ true)
    unfolding chosen phase_from having_from is_phase phase_written
    chosen_at h = grind (arith, nat_tests)

    pub stage_at : stage_number (stage_of (phase_from l at)) ≡ k
    unfolding chosen phase_from having_from is_phase phase_written
    stage_at = grind (arith, nat_tests)
