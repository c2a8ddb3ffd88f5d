-- `parameter_reader::well_formed` meets its contract. The loop's invariant: the block is well formed exactly if what is left of it is, within
-- some count of AN-parameters that is not below the octets left.
use Rattle.std.proofs.Common.{◌≡◌, ℕ, suc, pred, ◌≤◌, ◌<◌, List, length, drop, None, Some, Ok, Err, true, false, refl, sym, ap, ◌∙◌, arith, rules}
use Rattle.std.proofs.Math.ListN.{drop_of_length-le}
use native.Mathlib.Nat.{suc-pred-eq_of_pos}
use Rattle.octets.proofs.Search.{either}
use Rattle.parameters.specs.Parameters.{well_formed, well_formed_in, parameter_at}
use Rattle.parameters.specs.declared.Broken.{Broken}
use Rattle.parameters.specs.declared.Parameter.{Parameter}
use Rattle.parameters.proofs.Exact.{whole_lies}
use Rattle.parameters.proofs.Walk.{broken_fails, ends, none_left, not_end, passes, whole_next}
use Rattle.parameter_reader.proofs.well_formed.Invariants.{Left}
use Rattle.parameter_reader.proofs.well_formed.Goals as goal

module _ (l : List ℕ) (at : ℕ) (left : Left l at) where
  -- a count that is not below the octets left has one to spare
  one_less : at < length l → well_formed_in (suc (pred left.0)) (drop at l) ≡ well_formed l
  one_less more =
      let n = left.0 in
      let enough : 0 < n = omega (arith, left.1) in
      ap (λ (k : ℕ). well_formed_in k (drop at l)) (suc-pred-eq_of_pos enough) ∙ left.2

  again : (p : Parameter) → Ok (Some p) ≡ parameter_at l at → (at < p.next) × (p.next ≤ length l) × Left l p.next
  again p e =
      let n = left.0 in
      let lies = whole_lies l at p (sym e) in
      let more : at < length l = omega arith in
      let to = whole_next l at more p e in (
        omega arith,
        lies.2,
        (pred n, omega (arith, left.1), ap (λ (k : ℕ). well_formed_in (pred n) (drop k l)) to.0 ∙ sym (passes l at (pred n) to.1) ∙ one_less more),
      )

  module _ (within : at ≤ length l) where
    done : Ok None ≡ parameter_at l at → true ≡ well_formed l
    done e =
        either at (length l)
        (λ q. sym (none_left left.0) ∙ ap (well_formed_in left.0) (sym (drop_of_length-le l (omega (arith, q)))) ∙ left.2)
        (λ other. absurd (not_end l at (omega (arith, other)) e))

    fails : (b : Broken) → Err b ≡ parameter_at l at → false ≡ well_formed l
    fails b e =
        either at (length l)
        (λ q. absurd (let end = ends l at q in cc))
        (λ other. let more : at < length l = omega (arith, other) in sym (broken_fails l at more (pred left.0) b e) ∙ one_less more)

pub loop-parameter-init : goal.loop-parameter-init
unfolding well_formed
loop-parameter-init c = (search rules, (length c.args.parameters.now, omega arith, refl))

pub loop-parameter-smaller : goal.loop-parameter-smaller
loop-parameter-smaller c =
    let next = again c.args.parameters.now c.loop-parameter.at c.loop-parameter.invariant.1 c.in-Ok-Some.parameter (cc) in
    omega arith

pub loop-parameter-preserved : goal.loop-parameter-preserved
loop-parameter-preserved c =
    let next = again c.args.parameters.now c.loop-parameter.at c.loop-parameter.invariant.1 c.in-Ok-Some.parameter (cc) in
    (next.1, next.2)

pub returns-in-Ok-None : goal.returns-in-Ok-None
returns-in-Ok-None c =
    done c.args.parameters.now c.loop-parameter.at c.loop-parameter.invariant.1 c.loop-parameter.invariant.0 (cc)

pub returns-in-Err : goal.returns-in-Err
returns-in-Err c = fails _ _ c.loop-parameter.invariant.1 c.loop-parameter.invariant.0 _ (sym c.in-Err.is ∙ c.parameter_at.ensures)
