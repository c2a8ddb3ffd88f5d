-- `differ::differ_on` meets its contract. The loop's invariant: the places passed decide.
use Prim.Native.Nat.{ℕ, ◌+◌}
use mathlib.Core.Bool.{Bool, ◌&&◌}
use mathlib.Core.Path.{◌≡◌, refl, ap, ◌∙◌}
use native.Mathlib.Numerals.{add-one}
use native.Mathlib.Omega.{arith}
use Rattle.differ.specs.Differ.{differs_on}
use Rattle.octets.specs.Search.{all}
use Rattle.differ.proofs.differ_on.Goals as goal

-- one place more
one_more : (n : ℕ) (p : ℕ → Bool) (b : Bool) → b ≡ all n p → b && p n ≡ all (n + 1) p
unfolding all
one_more n p b e = rw add-one (ap (λ (t : Bool). t && p n) e)

pub loop-i-init : goal.loop-i-init
unfolding all
loop-i-init c = refl

pub loop-i-preserved : goal.loop-i-preserved
unfolding differs_on
loop-i-preserved c = one_more c.loop-i.i (differs_on c.args.v c.args.d) c.loop-i.differ c.loop-i.invariant

pub returns : goal.returns
returns c =
    let whole : c.loop-i.i ≡ 8 = omega arith in
    c.loop-i.invariant ∙ ap (λ (n : ℕ). all n (differs_on c.args.v c.args.d)) whole
