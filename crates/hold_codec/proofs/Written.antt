-- Whether holds are written at a place, by their addresses.
use Prim.Native.Nat.{ℕ, ◌+◌, ◌-◌, ◌*◌, ◌≤◌, ◌<◌}
use mathlib.Core.Bool.{true, false}
use mathlib.Core.List.{List}
use mathlib.Core.Path.{◌≡◌, sym}
use borrow.Author.Tests.{le-leb, lt-leb}
use Rattle.octets.specs.Part.{zeros_at}
use Rattle.octets.specs.Search.{all}
use Rattle.octets.proofs.Search.{all_fails}
use Rattle.holds.specs.Holds.{has_address, holds_written}

module _ (l : List ℕ) (at n : ℕ) where
  -- there are too many
  pub too_many : 8 < n → false ≡ holds_written l at n
  unfolding holds_written
  too_many h = sym (rw (lt-leb n 8 h))

  module _ (few : n ≤ 8) where
    -- a hold has no address
    pub no_address : (i : ℕ) → i < n → has_address l at i ≡ false → false ≡ holds_written l at n
    unfolding holds_written
    no_address i h e = sym (rw (le-leb n 8 few, all_fails n (has_address l at) i h e))

    -- every hold has one
    pub all_addresses : all n (has_address l at) ≡ true → zeros_at l (at + 22 * n) (176 - 22 * n) ≡ holds_written l at n
    unfolding holds_written
    all_addresses e = sym (rw (le-leb n 8 few, e))
