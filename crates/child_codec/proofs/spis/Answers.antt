-- `child_codec::spis` meets its contract. The loop's invariant: the SPIs of the children passed stand in their places.
use Prim.Native.Nat.{ℕ, ◌+◌, ◌*◌, ◌<◌}
use mathlib.Core.Bool.{cond}
use mathlib.Core.List.{List}
use mathlib.Core.Path.{◌≡◌, ◌∙◌}
use native.Mathlib.Omega.{arith}
use lib.Dec.{ltb}
use lib.ListN.{length, set, length-set}
use lib.Seq.{get_or-set_same, get_or-set_other}
use borrow.Author.Tests.{lt-ltb}
use borrow.Author.Rules.{rules}
use Rattle.octets.specs.Digits.{field}
use Rattle.octets.proofs.Search.{either}
use Rattle.child_codec.proofs.spis.Invariants.{Spis}
use Rattle.child_codec.proofs.spis.Goals as goal

-- the next SPI is stored
more : (l : List ℕ) (at n : ℕ) (w : List ℕ) (i : ℕ) → i < length w → Spis l at n w i → {v x : ℕ} (y : ℕ) → v ≡ cond (ltb i n) x y
    → x ≡ field l (at + 5 * i) 4 → Spis l at n (set w i v) (i + 1)
more l at n w i inside passed {v} {x} y chosen read k less within =
    either k i
    (λ e. let picked : cond (ltb i n) x y ≡ x = rw (lt-ltb i n (omega arith)) in
    rw e (get_or-set_same w i v 0 inside ∙ chosen ∙ picked ∙ read))
    (λ apart. get_or-set_other w i k v 0 apart ∙ passed k (omega arith) within)

pub loop-i-init : goal.loop-i-init
loop-i-init c = (search rules, λ k none. absurd (omega arith))

pub loop-i-preserved : goal.loop-i-preserved
loop-i-preserved c =
    let a = c.args in
    let at-loop = c.loop-i in
    let sized : length at-loop.w ≡ 8 = at-loop.invariant.0 in
    (length-set at-loop.w at-loop.i _ ∙ sized, more a.b.now a.at a.n at-loop.w at-loop.i (omega arith) at-loop.invariant.1 at-loop.i c.pick.ensures c.get.ensures.0)

pub returns : goal.returns
returns c = λ k h. c.loop-i.invariant.1 k (omega arith) h
