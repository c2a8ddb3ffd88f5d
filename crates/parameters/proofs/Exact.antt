-- A whole AN-parameter lies exactly in its block, and those of a well-formed block, written one behind the other, are the block.
use Prim.Native.Nat.{ℕ, zero, suc, ◌+◌, ◌≤◌}
use mathlib.Core.Bool.{Bool, true, false, cond, ◌&&◌, false≢true}
use mathlib.Core.List.{List, [], ◌∷◌, ◌++◌}
use mathlib.Core.Path.{◌≡◌, refl, ap, ap₂, ◌∙◌, subst}
use Rattle.std.specs.Prelude.{None, Some, Ok}
use lib.Dec.{leb, eqb}
use lib.ListN.{length, take, drop, take-append-drop}
use lib.Seq.{length-take-le}
use borrow.Author.Tests.{leb-true}
use Rattle.octets.specs.Row.{joined}
use Rattle.octets.proofs.Search.{and_left, and_right}
use Rattle.parameters.specs.Parameters.{overrun, size, whole_at, parameter_at, well_formed, well_formed_in}
use Rattle.parameters.specs.Reading.{an_parameters, an_parameters_in, parameter_octets}
use Rattle.parameters.specs.declared.Parameter.{Parameter}

-- the value starts behind two octets and ends where the next AN-parameter begins, within the block
pub whole_lies : (l : List ℕ) (at : ℕ) (p : Parameter) → parameter_at l at ≡ Ok (Some p)
    → (p.start ≡ at + 2) × (p.start + p.length ≡ p.next) × (p.next ≤ length l)
unfolding parameter_at
whole_lies l at p e = go (eqb at (length l)) (leb (at + 2) (length l)) (leb (at + 2 + size l at) (length l)) refl e
  where
    go : (d t u : Bool) → leb (at + 2 + size l at) (length l) ≡ u
        → cond d (Ok None) (cond (t && u) (Ok (Some (whole_at l at))) overrun) ≡ Ok (Some p)
        → (p.start ≡ at + 2) × (p.start + p.length ≡ p.next) × (p.next ≤ length l)
    go true t u q e = cc
    go false false u q e = cc
    go false true false q e = cc
    go false true true q e =
        let is : whole_at l at ≡ p = cc in
        subst (λ (p : Parameter). (p.start ≡ at + 2) × (p.start + p.length ≡ p.next) × (p.next ≤ length l)) is
        (refl, refl, leb-true _ _ q)

-- at most n AN-parameters, written one behind the other, are a list that they end exactly with
back : (n : ℕ) (l : List ℕ) → well_formed_in n l ≡ true → joined parameter_octets (an_parameters_in n l) ≡ l
unfolding well_formed_in an_parameters_in joined parameter_octets
back zero [] e = refl
back zero (type ∷ rest) e = absurd (false≢true e)
back (suc n) [] e = refl
back (suc n) (type ∷ []) e = absurd (false≢true e)
back (suc n) (type ∷ long ∷ rest) e =
    let fit : leb long (length rest) ≡ true = and_left (leb long (length rest)) (well_formed_in n (drop long rest)) e in
    let more = back n (drop long rest) (and_right (leb long (length rest)) (well_formed_in n (drop long rest)) e) in
    rw fit
    (ap₂ (λ (k : ℕ) (r : List ℕ). type ∷ k ∷ take long rest ++ r) (length-take-le long rest (leb-true _ _ fit)) more ∙ ap (λ (r : List ℕ). type ∷ long ∷ r) (take-append-drop long rest))

-- and so they are the whole block
pub written_back : (l : List ℕ) → well_formed l ≡ true → joined parameter_octets (an_parameters l) ≡ l
unfolding well_formed an_parameters
written_back l e = back (length l) l e
