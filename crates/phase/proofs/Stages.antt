-- A test of a phase's number or of its variant is a test of the phase.
use Prim.Native.Nat.{ℕ}
use mathlib.Core.Bool.{Bool, true, false, cond, not}
use mathlib.Core.List.{List, [], ◌∷◌}
use mathlib.Core.Path.{◌≡◌, refl, sym, ap, ◌∙◌, subst}
use lib.Dec.{T, eqb}
use mir.Val.{has_key}
use denote.Enum.Declared.{tag_of}
use types.Run.{OneOf, miss}
use borrow.Author.Tests.{eq-eqb, ne_eqb}
use Rattle.address.specs.declared.Address.{Address}
use Rattle.phase.specs.declared.Turn.{Turn}
use Rattle.phase.specs.Stage as Stage
use Rattle.phase.specs.Stage.{is_in, stage_number, stage_of}
use Rattle.phase.specs.declared.Phase.{Phase}
use Rattle.phase.specs.declared.Phase.TheVariants.{Idle, Auth, Eap}
use Rattle.phase.specs.contracts.Phase.{the_type}

module _ (s : Stage.Stage) (p : Phase) (n : ℕ) (number : n ≡ stage_number (stage_of p)) where
  pub is_in_lem : n ≡ stage_number s → is_in s p ≡ true
  unfolding is_in
  is_in_lem e = eq-eqb (stage_number (stage_of p)) (stage_number s) (sym number ∙ e)

  pub not_in : (n ≡ stage_number s → ⊥) → is_in s p ≡ false
  unfolding is_in
  not_in h = ne_eqb (stage_number (stage_of p)) (stage_number s) (λ e. h (number ∙ e))

-- the variants stand in the order of the numbers
tag_number : (p : Phase) → tag_of the_type p ≡ stage_number (stage_of p)
tag_number Idle = refl
tag_number _ = refl

-- the places of all variants
abbrev pub tags : List ℕ
tags = 0 ∷ 1 ∷ 2 ∷ 3 ∷ 4 ∷ 5 ∷ 6 ∷ 7 ∷ 8 ∷ []

-- numbers without one of them
abbrev pub without : ℕ → List ℕ → List ℕ
without k [] = []
without k (n ∷ ns) = cond (eqb n k) (without k ns) (n ∷ without k ns)

no_key : (k : ℕ) (ns : List ℕ) → T (not (has_key (without k ns) k))
no_key k [] = tt
no_key k (n ∷ ns) = go (eqb n k) refl (no_key k ns)
  where
    go : (b : Bool) → eqb n k ≡ b → T (not (has_key (without k ns) k)) → T (not (has_key (cond b (without k ns) (n ∷ without k ns)) k))
    go true e rest = rest
    go false e rest = rw e rest

-- the pattern of a phase did not match
pub other_stage : (s : Stage.Stage) (p : Phase) (ns : List ℕ) → OneOf (without (stage_number s) ns) (tag_of the_type p) → is_in s p ≡ false
other_stage s p ns k =
    let ks = without (stage_number s) ns in
    not_in s p (tag_of the_type p) (tag_number p) (λ e. miss ks (stage_number s) (no_key (stage_number s) ns) (subst (OneOf ks) e k))

-- the pattern of a phase matched
pub same_stage : {p q : Phase} → p ≡ q → is_in (stage_of q) p ≡ true
same_stage {p} {q} e = is_in_lem (stage_of q) p (stage_number (stage_of q)) (ap (λ (x : Phase). stage_number (stage_of x)) (sym e)) refl

-- a phase that is not Auth
pub not_auth : (p : Phase) → ((a : Address) → p ≡ Auth a → ⊥) → is_in Stage.auth p ≡ false
unfolding is_in
not_auth (Auth a) h = absurd (h a refl)
not_auth _ h = refl

-- a phase that is not Eap
pub not_eap : (p : Phase) → ((a : Address) (t : Turn) → p ≡ Eap a t → ⊥) → is_in Stage.eap p ≡ false
unfolding is_in
not_eap (Eap a t) h = absurd (h a t refl)
not_eap _ h = refl
