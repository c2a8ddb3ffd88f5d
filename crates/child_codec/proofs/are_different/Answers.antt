-- `child_codec::are_different` meets its contract. The loop's invariant: the children that are left decide.
use Prim.Native.Nat.{ℕ, ◌+◌, ◌-◌, ◌<◌}
use mathlib.Core.List.{List}
use mathlib.Core.Bool.{Bool, true, false, not, ◌&&◌}
use mathlib.Core.Path.{◌≡◌, refl, sym, ◌∙◌}
use lib.ListN.{length, get_or, take, drop}
use Rattle.std.proofs.lemmas.List.{at_drop_all, drop_more, take_rest}
use Rattle.octets.specs.Search.{distinct}
use Rattle.children.specs.declared.Child.{Child}
use Rattle.children.specs.Children.{has_spi, same_spi, spis_differ}
use Rattle.children.proofs.Widths.{nothing}
use Rattle.child_codec.proofs.are_different.Goals as goal

-- the next SPI against those behind it decides first
next : (l : List Child) (i : ℕ) → i < length l → (t : Bool) → has_spi (get_or l i nothing).spi (take (length l - (i + 1)) (drop (i + 1) l)) ≡ t → spis_differ (drop i l) ≡ not t && spis_differ (drop (i + 1) l)
unfolding spis_differ distinct same_spi has_spi
next l i h t e =
    let behind = rw (take_rest l (i + 1)) at e in
    rw (drop_more l i nothing h, behind)

pub loop-i-init : goal.loop-i-init
loop-i-init c = refl

pub returns-then-has_spi : goal.returns-then-has_spi
returns-then-has_spi c = sym (c.loop-i.invariant ∙ next _ _ c.loop-i-test.true true (sym c.has_spi.ensures ∙ c.if-has_spi.true))

pub loop-i-preserved : goal.loop-i-preserved
loop-i-preserved c = c.loop-i.invariant ∙ next _ _ c.loop-i-test.true false (sym c.has_spi.ensures ∙ c.if-has_spi.false)

pub returns : goal.returns
unfolding spis_differ distinct
returns c = sym (c.loop-i.invariant ∙ at_drop_all spis_differ _ _ c.loop-i-test.false)
