-- `ranking::is_listed` meets its contract: the networks of the list are gone through, of which the one at i is item i.
use Prim.Native.Nat.{ℕ, ◌/◌, ◌<◌}
use mathlib.Core.Bool.{true, false}
use mathlib.Core.Path.{◌≡◌}
use lib.ListN.{length}
use borrow.Author.Rules.{rules}
use Rattle.std.specs.Prelude.{Some}
use Rattle.std.specs.Option.{option_map}
use Rattle.std.proofs.iter.runs.Sources.{ranges}
use Rattle.network.specs.Plmn.{same_plmn}
use Rattle.lists.specs.Lists.{network_at, networks_in}
use Rattle.ranking.proofs.Picks.{among_row}
use Rattle.ranking.proofs.is_listed.Goals as goal

pub returns : goal.returns
unfolding networks_in same_plmn
returns c =
    let l = c.args.networks.now in
    let some : c.any.result ≡ true → (i : ℕ) × (i < length l / 4) × (same_plmn c.args.p (network_at l i) ≡ true) = search (rules, ranges) in
    let item : c.any.result ≡ false → (i : ℕ) → i < length l / 4 → option_map (λ y. y) (c.any.ensures.runs.0.at i) ≡ Some i = search (rules, ranges) in
    let none : c.any.result ≡ false → (i : ℕ) → i < length l / 4 → option_map (λ y. y) (c.any.ensures.runs.0.at i) ≡ Some i → same_plmn c.args.p (network_at l i) ≡ false = search (rules, ranges) in
    among_row (network_at l) c.args.p (length l / 4) c.any.result some (λ e i h. none e i h (item e i h))
