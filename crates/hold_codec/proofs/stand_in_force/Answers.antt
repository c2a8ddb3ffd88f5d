-- `hold_codec::stand_in_force` meets its contract. The loop's invariant: the holds passed have addresses, and the ends of those that are left decide.
use Prim.Native.Nat.{ℕ, ◌+◌}
use mathlib.Core.Bool.{Bool, true, false, ◌&&◌}
use mathlib.Core.List.{List}
use mathlib.Core.Path.{◌≡◌, refl, sym, ap, ◌∙◌, subst}
use native.Mathlib.Nat.{add-zero, sub-zero}
use native.Mathlib.Omega.{arith}
use Rattle.octets.specs.Part.{zeros_at}
use Rattle.octets.specs.Row.{row}
use Rattle.octets.specs.Search.{all, all_of}
use Rattle.octets.proofs.Rows.{rest_more, rest_none}
use Rattle.octets.proofs.Search.{all_more, and_false}
use Rattle.holds.specs.Holds.{ends_after, has_address, hold_from, hold_in, holds_from, holds_written}
use Rattle.hold_codec.proofs.Written.{all_addresses, no_address, too_many}
use Rattle.hold_codec.proofs.stand_in_force.Invariants.{left}
use Rattle.hold_codec.proofs.stand_in_force.Goals as goal

-- a test that passes changes nothing
with-true : (s t : Bool) → t ≡ true → s ≡ s && t
with-true true t e = sym e
with-true false t e = refl

module _ (l : List ℕ) (at n time : ℕ) where
  -- at the start all of them are left
  all_left : all_of (ends_after time) (holds_from l at n) ≡ left l at n time 0
  unfolding holds_from
  all_left = ap (λ (k : ℕ). all_of (ends_after time) (row (hold_in l at) 0 k)) (sym (sub-zero n))

  -- without holds there are zeros alone
  no_holds : n ≡ 0 → zeros_at l at 176 ≡ holds_written l at n && all_of (ends_after time) (holds_from l at n)
  unfolding all
  no_holds e =
      ap (λ (k : ℕ). zeros_at l k 176) (sym (add-zero at)) ∙ subst (λ (k : ℕ). zeros_at l (at + 0) 176 ≡ holds_written l at k) (sym e) (all_addresses l at 0 (omega arith) refl)
      ∙ with-true (holds_written l at n) (all_of (ends_after time) (holds_from l at n)) (all_left ∙ rest_none (hold_in l at) (ends_after time) n 0 (omega arith))

pub returns-then-n-eq0 : goal.returns-then-n-eq0
returns-then-n-eq0 c = c.zeros_at.ensures ∙ no_holds _ _ _ _ c.if-n-eq0.true

pub returns-then-n-gt-HOLDS : goal.returns-then-n-gt-HOLDS
returns-then-n-gt-HOLDS c =
    let a = c.args in
    ap (λ (t : Bool). t && all_of (ends_after a.time) (holds_from a.b.now a.at a.n)) (too_many a.b.now a.at a.n c.if-n-gt-HOLDS.true)

pub loop-i-init : goal.loop-i-init
unfolding all
loop-i-init c =
    let a = c.args in
    (refl, all_left a.b.now a.at a.n a.time)

pub returns-then-not-is_address : goal.returns-then-not-is_address
unfolding has_address
returns-then-not-is_address c =
    let a = c.args in
    ap (λ (t : Bool). t && all_of (ends_after a.time) (holds_from a.b.now a.at a.n))
    (no_address a.b.now a.at a.n c.if-n-gt-HOLDS.false c.loop-i.i c.loop-i-test.true (sym c.is_address.ensures ∙ c.if-not-is_address.true))

pub returns-then-not-ends_at_after : goal.returns-then-not-ends_at_after
unfolding ends_after hold_in hold_from
returns-then-not-ends_at_after c =
    let a = c.args in
    let at-loop = c.loop-i in
    sym (and_false (holds_written a.b.now a.at a.n) (all_of (ends_after a.time) (holds_from a.b.now a.at a.n))
    (at-loop.invariant.1 ∙ rest_more (hold_in a.b.now a.at) (ends_after a.time) a.n at-loop.i c.loop-i-test.true false (sym c.ends_at_after.ensures ∙ c.if-not-ends_at_after.true)))

pub loop-i-preserved : goal.loop-i-preserved
unfolding has_address ends_after hold_in hold_from
loop-i-preserved c =
    let a = c.args in
    let at-loop = c.loop-i in (
      all_more at-loop.i (has_address a.b.now a.at) at-loop.invariant.0 (sym c.is_address.ensures ∙ c.if-not-is_address.false),
      at-loop.invariant.1 ∙ rest_more (hold_in a.b.now a.at) (ends_after a.time) a.n at-loop.i c.loop-i-test.true true (sym c.ends_at_after.ensures ∙ c.if-not-ends_at_after.false),
    )

pub returns : goal.returns
returns c =
    let a = c.args in
    let at-loop = c.loop-i in
    let whole : at-loop.i ≡ a.n = omega arith in
    c.zeros_at-2.ensures ∙ all_addresses a.b.now a.at a.n c.if-n-gt-HOLDS.false (subst (λ (k : ℕ). all k (has_address a.b.now a.at) ≡ true) whole at-loop.invariant.0)
    ∙ with-true (holds_written a.b.now a.at a.n) (all_of (ends_after a.time) (holds_from a.b.now a.at a.n)) (at-loop.invariant.1 ∙ rest_none (hold_in a.b.now a.at) (ends_after a.time) a.n at-loop.i c.loop-i-test.false)
