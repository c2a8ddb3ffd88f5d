-- `hold_codec::are_different` meets its contract. The loop's invariant: the holds that are left decide.
use Prim.Native.Nat.{ℕ, ◌+◌, ◌-◌, ◌≤◌, ◌<◌}
use mathlib.Core.List.{List}
use mathlib.Core.Bool.{Bool, true, false, not, ◌&&◌}
use mathlib.Core.Path.{◌≡◌, refl, sym, ◌∙◌}
use lib.ListN.{length, get_or, take, drop, drop_of_length-le}
use Rattle.std.proofs.lemmas.List.{drop_more, take_rest}
use Rattle.octets.specs.Search.{distinct}
use Rattle.address.specs.Address.{address_in, held_addresses, stands}
use Rattle.address.specs.declared.Hold.{Hold}
use Rattle.holds.specs.Holds.{different}
use Rattle.holds.proofs.Widths.{nothing}
use Rattle.hold_codec.proofs.are_different.Goals as goal

module _ (l : List Hold) (i : ℕ) where
  -- the next address against those behind it decides first
  next : i < length l → (t : Bool) → stands (get_or l i nothing).address (held_addresses (take (length l - (i + 1)) (drop (i + 1) l))) ≡ t
      → different (held_addresses (drop i l)) ≡ not t && different (held_addresses (drop (i + 1) l))
  unfolding different distinct stands address_in
  next h t e =
      let behind = rw (take_rest l (i + 1)) at e in
      rw (drop_more l i nothing h, behind)

  -- none is left
  done : length l ≤ i → different (held_addresses (drop i l)) ≡ true
  unfolding different distinct
  done h = rw (drop_of_length-le l h)

pub loop-i-init : goal.loop-i-init
loop-i-init c = refl

pub returns-then-is_held : goal.returns-then-is_held
returns-then-is_held c = sym (c.loop-i.invariant ∙ next _ _ c.loop-i-test.true true (sym c.is_held.ensures ∙ c.if-is_held.true))

pub loop-i-preserved : goal.loop-i-preserved
loop-i-preserved c = c.loop-i.invariant ∙ next _ _ c.loop-i-test.true false (sym c.is_held.ensures ∙ c.if-is_held.false)

pub returns : goal.returns
returns c = sym (c.loop-i.invariant ∙ done _ _ c.loop-i-test.false)
