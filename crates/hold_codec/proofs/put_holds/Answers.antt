-- `hold_codec::put_holds` meets its contract. The loop's invariant: the holds passed are stored.
use Prim.Native.Nat.{ℕ}
use mathlib.Core.List.{List}
use mathlib.Core.Path.{◌≡◌, refl, ap, ◌∙◌, subst}
use native.Mathlib.Omega.{arith}
use lib.ListN.{length, take}
use lib.Seq.{take-length}
use Rattle.octets.specs.Part.{Wrote}
use Rattle.octets.specs.Row.{joined}
use Rattle.octets.proofs.Rows.{joined_stored}
use Rattle.octets.proofs.Parts.{wrote_length}
use Rattle.address.specs.declared.Hold.{Hold}
use Rattle.holds.specs.Holds.{hold_octets}
use Rattle.holds.proofs.Widths.{hold_wide, nothing}
use Rattle.hold_codec.proofs.put_holds.Goals as goal

pub loop-i-init : goal.loop-i-init
unfolding joined
loop-i-init c = (refl, record { wrote = refl })

pub loop-i-preserved : goal.loop-i-preserved
loop-i-preserved c =
    let at-loop = c.loop-i in
    (wrote_length c.put_hold.ensures ∙ at-loop.invariant.0, joined_stored hold_octets 22 hold_wide c.args.holds.now at-loop.i nothing (omega arith) at-loop.invariant.1 c.put_hold.ensures)

pub returns : goal.returns
returns c =
    let a = c.args in
    let whole : c.loop-i.i ≡ length a.holds.now = omega arith in
    subst (λ (l : List Hold). Wrote a.b.now a.at (joined hold_octets l) c.loop-i.b) (ap (λ (k : ℕ). take k a.holds.now) whole ∙ take-length a.holds.now) c.loop-i.invariant.1
