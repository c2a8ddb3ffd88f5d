-- `child_codec::put_children` meets its contract. The loop's invariant: the children passed are stored.
use Prim.Native.Nat.{ℕ}
use mathlib.Core.List.{List}
use mathlib.Core.Path.{◌≡◌, refl, ap, ◌∙◌, subst}
use native.Mathlib.Omega.{arith}
use lib.ListN.{length, take}
use lib.Seq.{take-length}
use Rattle.octets.specs.Part.{Wrote}
use Rattle.octets.specs.Row.{joined}
use Rattle.octets.proofs.Rows.{joined_stored}
use Rattle.octets.proofs.Parts.{wrote_length}
use Rattle.children.specs.declared.Child.{Child}
use Rattle.children.specs.Children.{child_octets}
use Rattle.children.proofs.Widths.{child_wide, nothing}
use Rattle.child_codec.proofs.put_children.Goals as goal

pub loop-i-init : goal.loop-i-init
unfolding joined
loop-i-init c = (refl, record { wrote = refl })

pub loop-i-preserved : goal.loop-i-preserved
loop-i-preserved c =
    let at-loop = c.loop-i in
    (wrote_length c.put_child.ensures ∙ at-loop.invariant.0, joined_stored child_octets 5 child_wide c.args.children.now at-loop.i nothing (omega arith) at-loop.invariant.1 c.put_child.ensures)

pub returns : goal.returns
returns c =
    let a = c.args in
    let whole : c.loop-i.i ≡ length a.children.now = omega arith in
    subst (λ (l : List Child). Wrote a.b.now a.at (joined child_octets l) c.loop-i.b) (ap (λ (k : ℕ). take k a.children.now) whole ∙ take-length a.children.now) c.loop-i.invariant.1
