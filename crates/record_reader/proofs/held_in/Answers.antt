-- `record_reader::held_in` meets its contract. The loop's invariant: the answers before number i are those of their addresses.
use Prim.Native.Nat.{ℕ, zero, suc, ◌+◌, ◌<◌}
use mathlib.Core.Bool.{Bool, false}
use mathlib.Core.List.{List}
use mathlib.Core.Path.{◌≡◌, refl, sym, ap, ◌∙◌}
use native.Mathlib.Omega.{arith}
use lib.ListN.{length, get_or, replicate, set, length-set}
use lib.Seq.{get_or-set_other, get_or-set_same}
use borrow.Author.Rules.{rules}
use Rattle.octets.specs.Row.{only, row}
use Rattle.octets.specs.Search.{any_of}
use Rattle.octets.proofs.Search.{either}
use Rattle.address.specs.Address.{stands}
use Rattle.address.specs.declared.Address.{Address}
use Rattle.holds.specs.Holds.{holds_from}
use Rattle.record.specs.Changes.{in_force, with_holds}
use Rattle.record.specs.Octets.{line_from}
use Rattle.record_reader.proofs.held_in.Invariants.{on-hold, Is}
use Rattle.record_reader.proofs.held_in.Goals as goal

-- no answer is yes
none_yet : (n i : ℕ) → get_or (replicate n false) i false ≡ false
none_yet zero i = refl
none_yet (suc n) zero = refl
none_yet (suc n) (suc i) = none_yet n i

-- no hold
no-hold : (b : List ℕ) (n time : ℕ) (list : List ℕ) (j : ℕ) → n ≡ 0 → Is b n time list j ≡ false
unfolding stands any_of only holds_from row
no-hold b n time list j e = rw e

module _ (yes : ℕ → Bool) (held : List Bool) (i : ℕ) (passed : (j : ℕ) → j < i → get_or held j false ≡ yes j) where
  -- one answer more
  next : (v : Bool) → i < length held → v ≡ yes i → (j : ℕ) → j < i + 1 → get_or (set held i v) j false ≡ yes j
  next v inside e j h =
      either j i (λ q. ap (λ (k : ℕ). get_or (set held i v) k false) q ∙ get_or-set_same held i v false inside ∙ e ∙ ap yes (sym q))
      (λ q. get_or-set_other held i j v false q ∙ passed j (omega (arith, q)))

pub returns-then-n-eq0 : goal.returns-then-n-eq0
unfolding in_force with_holds line_from
returns-then-n-eq0 c =
    let a = c.args in
    λ most i there. none_yet 16 i ∙ sym (no-hold a.b.now _ a.time a.list.now i (sym c.get-n.ensures.0 ∙ c.if-n-eq0.true))

pub loop-i-init : goal.loop-i-init
loop-i-init c = (search rules, λ j h. absurd (omega arith))

pub address_at-requires : goal.address_at-requires
address_at-requires c = omega arith

pub loop-i-preserved : goal.loop-i-preserved
loop-i-preserved c =
    let at-loop = c.loop-i in
    let a = c.args in
    let n = c.get-n.result in
    let is = c.is_held_at.ensures ∙ ap (λ (d : Address). stands d (on-hold a.b.now n a.time)) c.address_at.ensures in (
      length-set at-loop.held at-loop.i _ ∙ at-loop.invariant.0,
      next (Is a.b.now n a.time a.list.now) at-loop.held at-loop.i at-loop.invariant.1 _ (omega arith) is,
    )

pub returns : goal.returns
unfolding in_force with_holds line_from
returns c =
    let a = c.args in
    λ most j there. c.loop-i.invariant.1 j (omega arith) ∙ ap (λ (n : ℕ). Is a.b.now n a.time a.list.now j) c.get-n.ensures.0
