-- The chosen address is the first that is permitted; where none is, all are passed over.
use Rattle.std.specs.Prelude.{None, Some, slice_get}
use Prim.Native.Nat.{ℕ}
use mathlib.Core.List.{List, [], ◌∷◌}
use mathlib.Core.Path.{◌≡◌, refl, sym, ◌∙◌, subst}
use native.Mathlib.Omega.{arith}
use lib.ListN.{length, drop}
use Rattle.octets.specs.Row.{place, FirstAt, NonePasses}
use Rattle.octets.proofs.Firsts.{left_head, place_first, place_past}
use Rattle.address.specs.Address.{permitted}
use Rattle.address.specs.declared.Address.{Address}
use Rattle.gateway.specs.Gateway.{choose, found_at}
use Rattle.gateway.specs.declared.Found.TheVariants.{Chosen, Nothing}

-- what is found at a place, by what is left from there
found_chosen : (m : List Address) (i : ℕ) (a : Address) (k : ℕ) → found_at i m ≡ Chosen a k → (slice_get m 0 ≡ Some a) × (i ≡ k)
unfolding found_at
found_chosen [] i a k e = absurd (let z : ◌≡◌ {A = ℕ} 0 1 = cc in omega arith)
found_chosen (b ∷ m) i a k e = (cc, cc)

found_nothing : (m : List Address) (i k : ℕ) → found_at i m ≡ Nothing k → (slice_get m 0 ≡ None) × (i ≡ k)
unfolding found_at
found_nothing [] i k e = (refl, cc)
found_nothing (b ∷ m) i k e = absurd (let z : ◌≡◌ {A = ℕ} 0 1 = cc in omega arith)

module _ (version : ℕ) (held l : List Address) where
  abbrev at : ℕ
  at = place (permitted version held) l

  pub chosen_first : (a : Address) (k : ℕ) → choose version held l ≡ Chosen a k → FirstAt (permitted version held) l k a
  unfolding choose
  chosen_first a k e =
      let found = found_chosen (drop at l) at a k e in
      subst (λ (i : ℕ). FirstAt (permitted version held) l i a) found.1 (place_first (permitted version held) l a (left_head at l ∙ found.0))

  pub nothing_permitted : (k : ℕ) → choose version held l ≡ Nothing k → (k ≡ length l) × NonePasses (permitted version held) l
  unfolding choose
  nothing_permitted k e =
      let found = found_nothing (drop at l) at k e in
      let past = place_past (permitted version held) l (left_head at l ∙ found.0) in
      (sym found.1 ∙ past.0, past.1)
