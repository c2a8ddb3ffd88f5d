-- A phase is written back as the octets that it was read from, part by part.
use Prim.Native.Nat.{ℕ, ◌+◌, ◌≤◌}
use mathlib.Core.Bool.{true, ◌&&◌}
use mathlib.Core.List.{List, ◌++◌}
use mathlib.Core.Path.{◌≡◌, refl, sym}
use native.Mathlib.Omega.{arith}
use lib.Dec.{leb, eqb}
use lib.ListN.{length}
use borrow.Author.Tests.{leb-true, eqb-true, lt-leb, ne_eqb}
use Rattle.octets.specs.Digits.{be, digits, field}
use Rattle.octets.specs.Laws.{below}
use Rattle.octets.specs.Part.{part, zeros, zeros_at}
use Rattle.octets.specs.Search.{all_of}
use Rattle.octets.proofs.Fields.{follow, number_back, zeros_back}
use Rattle.octets.proofs.Search.{and_left, and_right, either}
use Rattle.addresses.specs.Addresses.{address_octets, address_from, is_address}
use Rattle.addresses.proofs.RoundTrip.{address_octets_lem}
use Rattle.phase.specs.Facts.{place_octets, place_from, place_written, registered_octets, registered_from, registered_written, facts_octets, facts_from, facts_written}
use Rattle.phase.specs.Phase.{asking_octets, having_octets, phase_from, phase_octets, phase_written, turn_from, turn_octets, turn_written, having_from}

module _ (l : List ℕ) (octets : all_of (below 256) l ≡ true) where
  module _ (at : ℕ) (fits : at + 3 ≤ length l) (w : place_written l at ≡ true) where
    place_octets_lem : place_octets (place_from l at) ≡ part l at 3
    unfolding place_octets place_from place_written be digits zeros
    place_octets_lem = either (field l at 1) 1 home (λ n. either (field l at 1) 2 abroad (λ m. unknown n m))
      where
        home : field l at 1 ≡ 1 → place_octets (place_from l at) ≡ part l at 3
        home e = rw e (follow l at 1 2 (number_back l octets at 1 1 (omega arith) e) (zeros_back l (at + 1) 2 (rw e at w)))

        abroad : field l at 1 ≡ 2 → place_octets (place_from l at) ≡ part l at 3
        abroad e = rw e (follow l at 1 2 (number_back l octets at 1 2 (omega arith) e) (number_back l octets (at + 1) 2 (field l (at + 1) 2) (omega arith) refl))

        unknown : (field l at 1 ≡ 1 → ⊥) → (field l at 1 ≡ 2 → ⊥) → place_octets (place_from l at) ≡ part l at 3
        unknown n m =
            let low : leb (field l at 1) 1 && zeros_at l (at + 1) 2 ≡ true = rw (ne_eqb (field l at 1) 2 m) at w in
            let e : field l at 1 ≡ 0 = omega (arith, leb-true (field l at 1) 1 (and_left (leb (field l at 1) 1) (zeros_at l (at + 1) 2) low)) in
            rw e (follow l at 1 2 (number_back l octets at 1 0 (omega arith) e) (zeros_back l (at + 1) 2 (and_right (leb (field l at 1) 1) (zeros_at l (at + 1) 2) low)))

  module _ (at : ℕ) (fits : at + 5 ≤ length l) (w : registered_written l at ≡ true) where
    registered_octets_lem : registered_octets (registered_from l at) ≡ part l at 5
    unfolding registered_octets registered_from registered_written be digits zeros
    registered_octets_lem = either (field l at 1) 1 plmn none
      where
        plmn : field l at 1 ≡ 1 → registered_octets (registered_from l at) ≡ part l at 5
        plmn e =
            rw e
            (follow l at 3 2 (follow l at 1 2 (number_back l octets at 1 1 (omega arith) e) (number_back l octets (at + 1) 2 (field l (at + 1) 2) (omega arith) refl)) (number_back l octets (at + 3) 2 (field l (at + 3) 2) (omega arith) refl))

        none : (field l at 1 ≡ 1 → ⊥) → registered_octets (registered_from l at) ≡ part l at 5
        none n =
            let empty : eqb (field l at 1) 0 && zeros_at l (at + 1) 4 ≡ true = rw (ne_eqb (field l at 1) 1 n) at w in
            let e : field l at 1 ≡ 0 = eqb-true (field l at 1) 0 (and_left (eqb (field l at 1) 0) (zeros_at l (at + 1) 4) empty) in
            rw e (follow l at 1 4 (number_back l octets at 1 0 (omega arith) e) (zeros_back l (at + 1) 4 (and_right (eqb (field l at 1) 0) (zeros_at l (at + 1) 4) empty)))

  facts_octets_lem : (at : ℕ) → at + 9 ≤ length l → facts_written l at ≡ true → facts_octets (facts_from l at) ≡ part l at 9
  unfolding facts_octets facts_from facts_written
  facts_octets_lem at h w =
      let place = place_octets_lem at (omega arith) (and_left (place_written l at) (registered_written l (at + 3)) w) in
      let registered = registered_octets_lem (at + 3) (omega arith) (and_right (place_written l at) (registered_written l (at + 3)) w) in
      follow l at 8 1 (follow l at 3 5 place registered) (number_back l octets (at + 8) 1 (field l (at + 8) 1) (omega arith) refl)

  module _ (at : ℕ) (fits : at + 2 ≤ length l) (w : turn_written l at ≡ true) where
    identifier : be 1 (field l (at + 1) 1) ≡ part l (at + 1) 1
    identifier = number_back l octets (at + 1) 1 (field l (at + 1) 1) (omega arith) refl

    turn_octets_lem : turn_octets (turn_from l at) ≡ part l at 2
    unfolding turn_octets turn_from turn_written
    turn_octets_lem = either (field l at 1) 1 first (λ n. either (field l at 1) 2 owed (λ m. answered n m))
      where
        first : field l at 1 ≡ 1 → turn_octets (turn_from l at) ≡ part l at 2
        first e = rw e (follow l at 1 1 (number_back l octets at 1 1 (omega arith) e) identifier)

        owed : field l at 1 ≡ 2 → turn_octets (turn_from l at) ≡ part l at 2
        owed e = rw e (follow l at 1 1 (number_back l octets at 1 2 (omega arith) e) identifier)

        answered : (field l at 1 ≡ 1 → ⊥) → (field l at 1 ≡ 2 → ⊥) → turn_octets (turn_from l at) ≡ part l at 2
        answered n m =
            let low : 1 ≤ field l at 1 = leb-true 1 (field l at 1) (and_left (leb 1 (field l at 1)) (leb (field l at 1) 3) w) in
            let high : field l at 1 ≤ 3 = leb-true (field l at 1) 3 (and_right (leb 1 (field l at 1)) (leb (field l at 1) 3) w) in
            let e : field l at 1 ≡ 3 = omega arith in
            rw e (follow l at 1 1 (number_back l octets at 1 3 (omega arith) e) identifier)

  -- the phases, by number
  module _ (at : ℕ) (fits : at + 20 ≤ length l) where
    idle_octets : field l at 1 ≡ 0 → zeros_at l (at + 1) 19 ≡ true → zeros 20 ≡ part l at 20
    unfolding be digits zeros
    idle_octets e w = follow l at 1 19 (number_back l octets at 1 0 (omega arith) e) (zeros_back l (at + 1) 19 w)

    asking_octets_lem : (n : ℕ) → field l at 1 ≡ n → facts_written l (at + 1) && zeros_at l (at + 10) 10 ≡ true → asking_octets n (facts_from l (at + 1)) ≡ part l at 20
    unfolding asking_octets
    asking_octets_lem n e w =
        let facts = facts_octets_lem (at + 1) (omega arith) (and_left (facts_written l (at + 1)) (zeros_at l (at + 10) 10) w) in
        follow l at 10 10 (follow l at 1 9 (number_back l octets at 1 n (omega arith) e) facts) (zeros_back l (at + 10) 10 (and_right (facts_written l (at + 1)) (zeros_at l (at + 10) 10) w))

    having_octets_lem : (n : ℕ) → field l at 1 ≡ n → is_address l (at + 1) && zeros_at l (at + 18) 2 ≡ true → having_octets n (address_from l (at + 1)) ≡ part l at 20
    unfolding having_octets
    having_octets_lem n e w =
        let address = address_octets_lem l octets (at + 1) (omega arith) (and_left (is_address l (at + 1)) (zeros_at l (at + 18) 2) w) in
        follow l at 18 2 (follow l at 1 17 (number_back l octets at 1 n (omega arith) e) address) (zeros_back l (at + 18) 2 (and_right (is_address l (at + 1)) (zeros_at l (at + 18) 2) w))

    eap_octets : field l at 1 ≡ 6 → is_address l (at + 1) && turn_written l (at + 18) ≡ true → be 1 6 ++ address_octets (address_from l (at + 1)) ++ turn_octets (turn_from l (at + 18)) ≡ part l at 20
    eap_octets e w =
        let address = address_octets_lem l octets (at + 1) (omega arith) (and_left (is_address l (at + 1)) (turn_written l (at + 18)) w) in
        let turn = turn_octets_lem (at + 18) (omega arith) (and_right (is_address l (at + 1)) (turn_written l (at + 18)) w) in
        follow l at 18 2 (follow l at 1 17 (number_back l octets at 1 6 (omega arith) e) address) turn

    module _ (w : phase_written l at ≡ true) where
      abbrev N : ℕ
      N = field l at 1

      abbrev Back : Type 0
      Back = phase_octets (phase_from l at) ≡ part l at 20

      -- a number above 2 other than 6
      module _ (not-0 : N ≡ 0 → ⊥) (not-1 : N ≡ 1 → ⊥) (not-2 : N ≡ 2 → ⊥) (not-6 : N ≡ 6 → ⊥) where
        rest : leb N 8 && is_address l (at + 1) && zeros_at l (at + 18) 2 ≡ true
        unfolding phase_written
        rest = rw (ne_eqb N 0 not-0, lt-leb N 2 (omega (arith, not-0, not-1, not-2)), ne_eqb N 6 not-6) at w

        last : (N ≡ 3 → ⊥) → (N ≡ 4 → ⊥) → (N ≡ 5 → ⊥) → (N ≡ 7 → ⊥) → N ≡ 8
        last f g h i =
            let high : N ≤ 8 = leb-true N 8 (and_left (leb N 8) (is_address l (at + 1)) (and_left (leb N 8 && is_address l (at + 1)) (zeros_at l (at + 18) 2) rest)) in
            omega (arith, not-0, not-1, not-2, f, g, h, not-6, i)

        by_address : Back
        unfolding phase_octets phase_from having_from phase_written
        by_address =
            either N 3 (λ e. rw e (having_octets_lem 3 e (rw e at w)))
            (λ f. either N 4 (λ e. rw e (having_octets_lem 4 e (rw e at w)))
            (λ g. either N 5 (λ e. rw e (having_octets_lem 5 e (rw e at w)))
            (λ h. either N 7 (λ e. rw e (having_octets_lem 7 e (rw e at w)))
            (λ i. let e : N ≡ 8 = last f g h i in rw e (having_octets_lem 8 e (rw e at w))))))

      by_number : Back
      unfolding phase_octets phase_from having_from phase_written
      by_number =
          either N 0 (λ e. rw e (idle_octets e (rw e at w)))
          (λ f. either N 1 (λ e. rw e (asking_octets_lem 1 e (rw e at w)))
          (λ g. either N 2 (λ e. rw e (asking_octets_lem 2 e (rw e at w)))
          (λ h. either N 6 (λ e. rw e (eap_octets e (rw e at w))) (λ i. by_address f g h i))))

pub write_back : (l : List ℕ) (at : ℕ) → all_of (below 256) l ≡ true → at + 20 ≤ length l → phase_written l at ≡ true
    → part l at 20 ≡ phase_octets (phase_from l at)
write_back l at octets fits w = sym (by_number l octets at fits w)
