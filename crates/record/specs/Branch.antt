-- What the tests of a record's octets ask and answer, in the terms of `Sound`.
use Rattle.std.specs.Prelude.{ℕ, ◌≤◌, Bool, true, ◌&&◌, ◌||◌, List, ◌≡◌, leb, eqb}
use Rattle.octets.specs.Search.{all}
use Rattle.address.specs.Address.{held_addresses, most_holds}
use Rattle.address.specs.declared.Address.{Address}
use Rattle.holds.specs.Holds.{different, has_address, holds_from}
use Rattle.phase.specs.Chosen.{chosen}
use Rattle.phase.specs.Phase.{is_phase, phase_from}
use Rattle.phase.specs.Stage.{is_in, stage_number}
use Rattle.phase.specs.Stage as Stage
use Rattle.record.specs.Octets.{holds_place, phase_place}
use Rattle.record.specs.Sound.{chosen_free, most_busy_holds}

-- a line whose phase has a number is idle or has room for one hold more, and is live or has no children
unfoldable pub counts_fit : ℕ → ℕ → ℕ → Bool
counts_fit stage m n = (eqb stage (stage_number Stage.idle) || leb m most_busy_holds) && (eqb stage (stage_number Stage.live) || eqb n 0)

-- the addresses of the first m holds in a record's octets
abbrev pub held_in : List ℕ → ℕ → List Address
held_in l m = held_addresses (holds_from l holds_place m)

-- these addresses are different, and none of them is the chosen one
unfoldable pub apart : List ℕ → ℕ → Bool
apart l m = different (held_in l m) && chosen_free (chosen (phase_from l phase_place)) (held_in l m)

-- what is tested before addresses are compared: a phase stands there and m addresses, at most 8, and a line that is not idle has room for
-- one hold more
pub record Comparable (l : List ℕ) (m : ℕ) : Type 0 where
  pub phased : is_phase l phase_place ≡ true
  pub addressed : all m (has_address l holds_place) ≡ true
  pub few : m ≤ most_holds
  pub room : is_in Stage.idle (phase_from l phase_place) || leb m most_busy_holds ≡ true
