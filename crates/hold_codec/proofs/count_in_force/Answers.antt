-- `hold_codec::count_in_force` meets its contract. The loop's invariant: the count and the holds that are left make the whole.
use Prim.Native.Nat.{ℕ, suc, ◌+◌, ◌-◌, ◌*◌, ◌≤◌, ◌<◌}
use mathlib.Core.Bool.{Bool, true, false}
use mathlib.Core.List.{List}
use mathlib.Core.Path.{◌≡◌, sym, ap, ◌∙◌}
use native.Mathlib.Nat.{sub-zero, zero-add}
use native.Mathlib.Omega.{arith}
use lib.ListN.{length}
use borrow.Author.Rules.{rules}
use Rattle.octets.specs.Digits.{field}
use Rattle.octets.specs.Row.{keep, only, row}
use Rattle.octets.proofs.Rows.{row_done, row_more}
use Rattle.address.specs.declared.Hold.{Hold}
use Rattle.holds.specs.Holds.{end_after, end_of, ends_after, hold_from, hold_in, holds_from}
use Rattle.hold_codec.proofs.count_in_force.Invariants.{left}
use Rattle.hold_codec.proofs.count_in_force.Goals as goal
use Rattle.hold_codec.proofs.count_in_force.Goals.{then-ends_at_after, else-ends_at_after}

module _ (l : List ℕ) (at n time i : ℕ) where
  -- the next hold is kept or not
  next : i < n → (t u : Bool) → t ≡ end_after time (end_of (field l (at + 22 * i + 17) 5)) → t ≡ u
      → left l at n time i ≡ length (keep u (hold_in l at i) (only (ends_after time) (row (hold_in l at) (i + 1) (n - (i + 1)))))
  unfolding only hold_in hold_from ends_after
  next h t u ends test =
      ap (λ (hs : List Hold). length (only (ends_after time) hs)) (row_more (hold_in l at) i n h)
      ∙ ap (λ (r : Bool). length (keep r (hold_in l at i) (only (ends_after time) (row (hold_in l at) (i + 1) (n - (i + 1)))))) (sym ends ∙ test)

  -- it ends after the time
  more : i < n → (t : Bool) → t ≡ end_after time (end_of (field l (at + 22 * i + 17) 5)) → t ≡ true → left l at n time i ≡ suc (left l at n time (i + 1))
  unfolding keep
  more h t ends test = next h t true ends test

  -- it has ended
  same : i < n → (t : Bool) → t ≡ end_after time (end_of (field l (at + 22 * i + 17) 5)) → t ≡ false → left l at n time i ≡ left l at n time (i + 1)
  unfolding keep
  same h t ends test = next h t false ends test

  -- none is left
  done : n ≤ i → left l at n time i ≡ 0
  unfolding only
  done h = rw (row_done (hold_in l at) i n h)

pub loop-i-init : goal.loop-i-init
unfolding holds_from
loop-i-init c = (search rules, rw (sub-zero, zero-add))

pub loop-i-preserved : goal.loop-i-preserved
loop-i-preserved c =
    let a = c.args in
    let at-loop = c.loop-i in
    let h = c.loop-i-test.true in
    let ends = c.ends_at_after in (
      elim c.if-ends_at_after.branch [ then-ends_at_after w ↦ omega arith | else-ends_at_after w ↦ omega arith ],
      elim c.if-ends_at_after.branch [
        | then-ends_at_after w ↦ omega (arith, w.count-is, at-loop.invariant.1, more a.b.now a.at a.n a.time at-loop.i h ends.result ends.ensures w.if-ends_at_after.true)
        | else-ends_at_after w ↦ omega (arith, w.count-is, at-loop.invariant.1, same a.b.now a.at a.n a.time at-loop.i h ends.result ends.ensures w.if-ends_at_after.false)
      ],
    )

pub returns : goal.returns
returns c =
    let at-loop = c.loop-i in
    let a = c.args in
    omega (arith, at-loop.invariant.1, done a.b.now a.at a.n a.time at-loop.i c.loop-i-test.false)
