-- `hold_codec::keys` meets its contract. The loop's invariant: the list has what is asked for in the places passed.
use Prim.Native.Nat.{ℕ, ◌≤◌, ◌<◌}
use mathlib.Core.Bool.{cond}
use mathlib.Core.List.{List}
use mathlib.Core.Path.{◌≡◌, refl, sym, ap, ap₂, ◌∙◌, subst}
use native.Mathlib.Nat.{zero-add}
use native.Mathlib.Omega.{arith}
use lib.Dec.{ltb}
use lib.ListN.{length, take, get_or, length-set}
use lib.Seq.{take-length}
use borrow.Author.Rules.{rules}
use borrow.Author.Tests.{lt-ltb, le-ltb}
use Rattle.octets.specs.Row.{row}
use Rattle.octets.proofs.Rows.{get_d_row, row_stored}
use Rattle.holds.specs.Keys.{KeysOf}
use Rattle.hold_codec.proofs.keys.Invariants.{keyIn}
use Rattle.hold_codec.proofs.keys.Goals as goal

-- a list with all eight of them
all_in : (l : List ℕ) (at n other : ℕ) (keys : List ℕ) → n ≤ 8 → length keys ≡ 8 → take 8 keys ≡ row (keyIn l at n other) 0 8 → KeysOf l at n other keys
unfolding keyIn
all_in l at n other keys few sized e =
    let whole : keys ≡ row (keyIn l at n other) 0 8 = sym (take-length keys) ∙ ap (λ (k : ℕ). take k keys) sized ∙ e in
    let each : (i : ℕ) → i < 8 → get_or keys i 0 ≡ keyIn l at n other i =
    λ i h. ap (λ (m : List ℕ). get_or m i 0) whole ∙ get_d_row (keyIn l at n other) 0 0 8 i h ∙ ap (keyIn l at n other) (zero-add i) in
    record {
      held = λ i h. each i (omega arith) ∙ rw (lt-ltb i n h);
      last = λ h. each 7 (omega arith) ∙ rw (le-ltb 7 n (omega arith));
    }

pub loop-i-init : goal.loop-i-init
unfolding row
loop-i-init c = (search rules, refl)

pub loop-i-preserved : goal.loop-i-preserved
unfolding keyIn
loop-i-preserved c =
    let a = c.args in
    let at-loop = c.loop-i in
    let sized : length at-loop.list ≡ 8 = at-loop.invariant.0 in
    let stored : c.pick.result ≡ keyIn a.b.now a.at a.n a.other at-loop.i =
    c.pick.ensures ∙ ap₂ (cond (ltb at-loop.i a.n)) c.key_at-key.ensures c.pick-free.ensures in
    (length-set at-loop.list at-loop.i _ ∙ sized, row_stored (keyIn a.b.now a.at a.n a.other) at-loop.list at-loop.i _ (omega arith) at-loop.invariant.1 stored)

pub returns : goal.returns
returns c =
    let a = c.args in
    let at-loop = c.loop-i in
    let past : at-loop.i ≡ 8 = omega arith in
    all_in a.b.now a.at a.n a.other at-loop.list c.requires.1 at-loop.invariant.0
    (subst (λ (k : ℕ). take k at-loop.list ≡ row (keyIn a.b.now a.at a.n a.other) 0 k) past at-loop.invariant.1)
