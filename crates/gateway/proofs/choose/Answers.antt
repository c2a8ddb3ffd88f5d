-- `gateway::choose` meets its contract: for every list of held addresses that the array tells of, the addresses passed are not permitted, so
-- the place found among all is found among those that are left.
use Prim.Native.Nat.{ℕ, ◌≤◌, ◌<◌}
use mathlib.Core.Bool.{true, false}
use mathlib.Core.List.{List}
use mathlib.Core.Path.{◌≡◌, ap, ◌∙◌}
use native.Mathlib.Nat.{zero-add}
use native.Mathlib.Omega.{arith}
use Rattle.std.proofs.lemmas.Bool.Decides.{nat_tests}
use Rattle.octets.specs.Row.{row}
use Rattle.octets.proofs.Rows.{drop_row, row_more, row_done, place_more, place_here, place_none}
use Rattle.address.specs.Address.{permitted}
use Rattle.address.specs.declared.Address.{Address}
use Rattle.lists.specs.Lists.{address_at, addresses_in}
use Rattle.gateway.specs.declared.Found.TheVariants.{Chosen, Nothing}
use Rattle.gateway.specs.Gateway.{choose, found_at}
use Rattle.gateway.proofs.choose.Invariants.{found, found_from}
use Rattle.gateway.proofs.choose.Goals as goal

module _ (local : ℕ) (held : List Address) (f : ℕ → Address) (i n : ℕ) (left : found local held f n ≡ found_from local held f n i) where
  -- the next address is permitted
  hit : i < n → (a : Address) → a ≡ f i → permitted local held (f i) ≡ true → Chosen a i ≡ choose local held (row f 0 n)
  unfolding choose found_at
  hit h a e t =
      let here : found local held f n ≡ i = left ∙ place_here f (permitted local held) i n h t in
      rw (here, drop_row f i 0 n, zero-add i, row_more f i n h, e)

  -- none is left
  none : n ≤ i → i ≤ n → Nothing n ≡ choose local held (row f 0 n)
  unfolding choose found_at
  none h le =
      let all : n ≡ i = omega arith in
      let here : found local held f n ≡ i = left ∙ place_none f (permitted local held) i n h in
      ap Nothing all ∙ rw (here, drop_row f i 0 n, zero-add i, row_done f i n h)

pub returns-then-not-held-i : goal.returns-then-not-held-i
unfolding addresses_in permitted
returns-then-not-held-i c =
    λ hs held_are.
    let a = c.args in
    let i = c.loop-i.i in
    let read = c.address_at-a in
    let free = held_are i (omega arith) in
    let passes : permitted a.local hs (address_at a.list.now i) ≡ true = grind (arith, nat_tests, c.version.ensures, read.ensures, free) in
    hit a.local hs (address_at a.list.now) i _ (c.loop-i.invariant hs held_are) c.loop-i-test.true read.result read.ensures passes

pub loop-i-preserved : goal.loop-i-preserved
unfolding permitted
loop-i-preserved c =
    λ hs held_are.
    let a = c.args in
    let i = c.loop-i.i in
    let read = c.address_at-a in
    let free = held_are i (omega arith) in
    let fails : permitted a.local hs (address_at a.list.now i) ≡ false = grind (arith, nat_tests, c.version.ensures, read.ensures, free) in
    c.loop-i.invariant hs held_are ∙ place_more (address_at a.list.now) (permitted a.local hs) i _ c.loop-i-test.true fails

pub returns : goal.returns
unfolding addresses_in
returns c =
    λ hs held_are.
    let a = c.args in
    none a.local hs (address_at a.list.now) _ _ (c.loop-i.invariant hs held_are) c.loop-i-test.false c.loop-i.auto.i-end
