-- `hold_codec::is_held_at` meets its contract. The loop's invariant: the holds that are left decide.
use Prim.Native.Nat.{ℕ, ◌+◌, ◌-◌, ◌*◌, ◌≤◌, ◌<◌}
use mathlib.Core.Bool.{Bool, true, false, ◌&&◌, ◌||◌}
use mathlib.Core.List.{List}
use mathlib.Core.Path.{◌≡◌, refl, sym, ap, ◌∙◌}
use native.Mathlib.Nat.{sub-zero}
use borrow.Author.Rules.{rules}
use Rattle.octets.specs.Digits.{field}
use Rattle.octets.specs.Row.{keep, only, row}
use Rattle.octets.specs.Search.{any_of}
use Rattle.octets.proofs.Rows.{row_done, row_more}
use Rattle.address.specs.Address.{address_in, held_addresses, same_address, stands}
use Rattle.address.specs.declared.Address.{Address}
use Rattle.address.proofs.Same.{eq_same}
use Rattle.address.specs.declared.Hold.{Hold}
use Rattle.addresses.specs.Addresses.{address_from}
use Rattle.holds.specs.Holds.{end_after, end_of, ends_after, hold_from, hold_in, holds_from}
use Rattle.hold_codec.proofs.is_held_at.Invariants.{left}
use Rattle.hold_codec.proofs.is_held_at.Goals as goal

-- one hold more, where it is kept
kept : (a : Address) (h : Hold) (hs : List Hold) (s t : Bool) → same_address a h.address ≡ s → stands a (held_addresses (keep t h hs)) ≡ (s && t) || stands a (held_addresses hs)
unfolding stands any_of keep address_in
kept a h hs true true e = ap (λ (r : Bool). r || stands a (held_addresses hs)) e
kept a h hs false true e = ap (λ (r : Bool). r || stands a (held_addresses hs)) e
kept a h hs true false e = refl
kept a h hs false false e = refl

module _ (l : List ℕ) (at n time : ℕ) (a : Address) (i : ℕ) where
  -- the next hold decides first
  next : i < n → {b : Address} {s t u : Bool} → b ≡ address_from l (at + 22 * i) → s ≡ same_address a b → t ≡ end_after time (end_of (field l (at + 22 * i + 17) 5)) → s && t ≡ u
      → left l at n time a i ≡ u || left l at n time a (i + 1)
  unfolding only hold_in hold_from ends_after
  next h {s = s} {t = t} read same ends test =
      ap (λ (hs : List Hold). stands a (held_addresses (only (ends_after time) hs))) (row_more (hold_in l at) i n h)
      ∙ ap (λ (r : Bool). stands a (held_addresses (keep r (hold_in l at i) (only (ends_after time) (row (hold_in l at) (i + 1) (n - (i + 1))))))) (sym ends)
      ∙ kept a (hold_in l at i) (only (ends_after time) (row (hold_in l at) (i + 1) (n - (i + 1)))) s t (ap (same_address a) (sym read) ∙ sym same)
      ∙ ap (λ (r : Bool). r || left l at n time a (i + 1)) test

  -- none is left
  done : n ≤ i → left l at n time a i ≡ false
  unfolding only stands any_of
  done h = rw (row_done (hold_in l at) i n h)

pub loop-i-init : goal.loop-i-init
unfolding holds_from
loop-i-init c = rw sub-zero

pub returns-then-eq-ends_at_after : goal.returns-then-eq-ends_at_after
returns-then-eq-ends_at_after c =
    let at-loop = c.loop-i in
    let a = c.args in
    sym (at-loop.invariant ∙ next a.b.now a.at a.n a.time a.a at-loop.i c.loop-i-test.true c.read_address.ensures (c.eq.ensures ∙ eq_same _ _ (search rules) (search rules)) c.ends_at_after.ensures c.if-eq-ends_at_after.true)

pub loop-i-preserved : goal.loop-i-preserved
loop-i-preserved c =
    let at-loop = c.loop-i in
    let a = c.args in
    at-loop.invariant ∙ next a.b.now a.at a.n a.time a.a at-loop.i c.loop-i-test.true c.read_address.ensures (c.eq.ensures ∙ eq_same _ _ (search rules) (search rules)) c.ends_at_after.ensures c.if-eq-ends_at_after.false

pub returns : goal.returns
returns c =
    let at-loop = c.loop-i in
    let a = c.args in
    sym (at-loop.invariant ∙ done a.b.now a.at a.n a.time a.a at-loop.i c.loop-i-test.false)
