-- PLMNs are the same exactly where they are equal, so a PLMN stands in a list exactly where an element is that PLMN.
use Rattle.std.specs.Prelude.{Some, slice_get}
use Prim.Native.Nat.{ℕ}
use mathlib.Core.Bool.{true}
use mathlib.Core.List.{List}
use mathlib.Core.Path.{◌≡◌, refl, sym, ap, ap₂, ◌∙◌}
use lib.Dec.{eqb}
use borrow.Author.Tests.{eq-eqb, eqb-true}
use Rattle.octets.proofs.Firsts.{any_at, at_any}
use Rattle.octets.proofs.Search.{and_left, and_right, and_true}
use Rattle.network.specs.Plmn.{same_plmn, among}
use Rattle.network.specs.declared.Plmn.{Plmn}

pub self_plmn : (p : Plmn) → same_plmn p p ≡ true
unfolding same_plmn
self_plmn p = and_true (eqb p.mcc p.mcc) (eqb p.mnc p.mnc) (eq-eqb p.mcc p.mcc refl) (eq-eqb p.mnc p.mnc refl)

pub plmn_same : (p q : Plmn) → same_plmn p q ≡ true → p ≡ q
unfolding same_plmn
plmn_same p q e =
    ap₂ (λ (m n : ℕ). record { mcc = m; mnc = n }) (eqb-true p.mcc q.mcc (and_left (eqb p.mcc q.mcc) (eqb p.mnc q.mnc) e))
    (eqb-true p.mnc q.mnc (and_right (eqb p.mcc q.mcc) (eqb p.mnc q.mnc) e))

module _ (p : Plmn) (ps : List Plmn) where
  pub among_only : among p ps ≡ true → (i : ℕ) × (slice_get ps i ≡ Some p)
  unfolding among
  among_only e =
      let found = any_at (same_plmn p) ps e in
      (found.0, found.2 ∙ ap Some (sym (plmn_same p found.1 found.3)))

  pub among_always : (i : ℕ) → slice_get ps i ≡ Some p → among p ps ≡ true
  unfolding among
  among_always i e = at_any (same_plmn p) ps i p e (self_plmn p)
