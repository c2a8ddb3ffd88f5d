-- `ranking::unranked` meets its contract: the networks are gone through, of which the one at i is item i, up to the first that is not barred.
use Prim.Native.Nat.{ℕ, ◌+◌, ◌/◌, ◌<◌}
use mathlib.Core.Bool.{true, false, not}
use mathlib.Core.Path.{◌≡◌, ap}
use native.Mathlib.Omega.{arith}
use lib.ListN.{length}
use borrow.Author.Rules.{rules}
use Rattle.std.specs.Prelude.{None, Some}
use Rattle.std.specs.Option.{option_map}
use Rattle.std.proofs.iter.runs.Sources.{ranges}
use Rattle.network.specs.declared.Plmn.{Plmn}
use Rattle.config.specs.Settings.{settings_of}
use Rattle.lists.specs.Lists.{network_at, networks_in}
use Rattle.preference.specs.Preference.{barred, unbarred, unranked}
use Rattle.ranking.proofs.Picks.{first_row}
use Rattle.ranking.proofs.unranked.Goals as goal

pub returns : goal.returns
unfolding unranked unbarred networks_in
returns c =
    let l = c.args.networks.now in
    let s = settings_of c.args.configuration in
    let run = c.find.ensures.runs.0 in
    let behind = c.map.ensures.runs run run.seen c.find.ensures.runs.1 in
    let number : (i : ℕ) → i < run.len → option_map (λ y. y) (behind.0.at i) ≡ Some i = search (rules, ranges) in
    let item : (i : ℕ) → option_map (λ y. y) (behind.0.at i) ≡ Some i → option_map (λ y. y) (run.at i) ≡ Some (network_at l i) = search (rules, ranges) in
    let passed : (i : ℕ) → c.find.result ≡ None → option_map (λ y. y) (run.at i) ≡ Some (network_at l i) → barred s (network_at l i) ≡ true = search (rules, ranges) in
    let size : c.find.result ≡ None → run.len ≡ length l / 4 = search (rules, ranges) in
    let here : (p : Plmn) → c.find.result ≡ Some p → (i : ℕ) × (run.len ≡ i + 1) × (i < length l / 4) × (network_at l i ≡ p) × (barred s p ≡ false) = search (rules, ranges) in
    let before : (p : Plmn) → c.find.result ≡ Some p → (i j : ℕ) → run.len ≡ i + 1 → j < i → option_map (λ y. y) (behind.0.at j) ≡ Some j → barred s (network_at l j) ≡ true = search (rules, ranges) in
    first_row (network_at l) (unbarred s) (length l / 4) c.find.result (λ e i less. ap not (passed i e (item i (number i (omega (arith, size e))))))
    (λ p e. let h = here p e in (h.0, h.2, h.3, ap not h.4, λ j less. ap not (before p e h.0 j h.1 less (number j (omega (arith, h.1))))))
