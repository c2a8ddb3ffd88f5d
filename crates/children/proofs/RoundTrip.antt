-- Writing and reading children undo each other.
use Prim.Native.Nat.{ℕ, ◌+◌, ◌-◌, ◌*◌, ◌^◌, ◌≤◌}
use mathlib.Core.Bool.{true}
use mathlib.Core.List.{List}
use mathlib.Core.Path.{◌≡◌, refl, sym}
use native.Mathlib.Omega.{arith}
use lib.Dec.{leb, ltb}
use lib.ListN.{length}
use borrow.Author.Tests.{leb-true, ltb-true, le-leb, lt-ltb}
use Rattle.octets.specs.Digits.{be, digits, field}
use Rattle.octets.specs.Laws.{below}
use Rattle.octets.specs.Part.{part, zeros_at}
use Rattle.octets.specs.Search.{all_of}
use Rattle.octets.proofs.Elements.{padded_back, padded_count, padded_octets}
use Rattle.octets.proofs.Fields.{field_below, follow, number_back}
use Rattle.octets.proofs.Octets.{Octets, joins, be_octets, row_octets}
use Rattle.octets.proofs.Rows.{row_passes}
use Rattle.octets.proofs.Search.{and_left, and_right, and_true}
use Rattle.octets.proofs.Stands.{Stands, before, behind, says}
use Rattle.children.specs.Children.{child_from, child_in, child_octets, children_from, children_octets, children_written}
use Rattle.children.specs.Laws.{child_storable}
use Rattle.children.specs.declared.Child.{Child}
use Rattle.children.proofs.Widths.{child_wide}

-- one child
module _ (l : List ℕ) (at : ℕ) where
  child_back : (c : Child) (r : List ℕ) → child_storable c ≡ true → Stands l at (child_octets c) r → child_from l at ≡ c
  unfolding child_octets child_from child_storable be digits
  child_back c r h e =
      let small-spi : ltb c.spi (256 ^ 4) ≡ true = and_left (ltb c.spi (256 ^ 4)) (ltb c.session 256) h in
      let small-session : ltb c.session 256 ≡ true = and_right (ltb c.spi (256 ^ 4)) (ltb c.session 256) h in
      let spi : field l at 4 ≡ c.spi = says 4 c.spi (ltb-true c.spi (256 ^ 4) small-spi) (before (be 4 c.spi) (be 1 c.session) e) in
      let session : field l (at + 4) 1 ≡ c.session = says 1 c.session (ltb-true c.session 256 small-session) (behind (be 4 c.spi) (be 1 c.session) 4 refl e) in
      rw (spi, session)

  module _ (octets : all_of (below 256) l ≡ true) (fits : at + 5 ≤ length l) where
    child_octets_lem : child_octets (child_from l at) ≡ part l at 5
    unfolding child_octets child_from
    child_octets_lem = follow l at 4 1 (number_back l octets at 4 (field l at 4) (omega arith) refl) (number_back l octets (at + 4) 1 (field l (at + 4) 1) (omega arith) refl)

    child_storable_lem : child_storable (child_from l at) ≡ true
    unfolding child_storable child_from
    child_storable_lem =
        let spi = field l at 4 in
        let session = field l (at + 4) 1 in
        and_true (ltb spi (256 ^ 4)) (ltb session 256) (lt-ltb spi (256 ^ 4) (field_below l octets at 4 (omega arith))) (lt-ltb session 256 (field_below l octets (at + 4) 1 (omega arith)))

-- the children of a line
pub octet_count : (cs : List Child) → length cs ≤ 8 → length (children_octets cs) ≡ 40
unfolding children_octets
octet_count cs few = padded_count child_octets 5 child_wide 40 8 refl cs few

pub read_back : (l : List ℕ) (at : ℕ) (cs : List Child) → length cs ≤ 8 → all_of child_storable cs ≡ true → part l at 40 ≡ children_octets cs
    → (children_from l at (length cs) ≡ cs) × (children_written l at (length cs) ≡ true)
unfolding children_from children_octets children_written child_in
read_back l at cs few h e =
    let back = padded_back child_octets 5 child_wide l at child_storable (child_in l at) (λ i. true) (λ i x r k s. (child_back l (at + 5 * i) x r k s, refl)) 40 cs h e in
    (back.0, rw (le-leb (length cs) 8 few, back.2))

pub write_back : (l : List ℕ) (at n : ℕ) → all_of (below 256) l ≡ true → at + 40 ≤ length l → children_written l at n ≡ true
    → part l at 40 ≡ children_octets (children_from l at n)
unfolding children_from children_octets children_written child_in
write_back l at n octets fits w =
    let none = zeros_at l (at + 5 * n) (40 - 5 * n) in
    let few : n ≤ 8 = leb-true n 8 (and_left (leb n 8) none w) in
    sym (padded_octets child_octets 5 child_wide l at (child_in l at) 40 n (omega arith) (λ k h. child_octets_lem l (at + 5 * k) octets (omega arith)) (and_right (leb n 8) none w))

pub storable : (l : List ℕ) (at n : ℕ) → all_of (below 256) l ≡ true → at + 5 * n ≤ length l → all_of child_storable (children_from l at n) ≡ true
unfolding children_from child_in
storable l at n octets fits = row_passes (child_in l at) child_storable 0 n (λ k h. child_storable_lem l (at + 5 * k) octets (omega arith))

-- every octet of the children is one
pub octets : (cs : List Child) → Octets (children_octets cs)
unfolding children_octets child_octets
octets cs = row_octets child_octets (λ c. joins (be_octets 4 c.spi) (be_octets 1 c.session)) 40 cs
