-- Congestion: the line rests, and its address is held by the timer.
use Rattle.std.specs.Prelude.{Option, None, Some}
use Prim.Native.Nat.{ℕ, ◌+◌, ◌^◌, ◌≤◌, ◌<◌}
use mathlib.Core.Bool.{true, false, ◌&&◌}
use mathlib.Core.List.{[], ◌∷◌, ◌++◌, append-nil, map}
use mathlib.Core.Path.{◌≡◌, refl, sym, ap, ◌∙◌, subst}
use native.Mathlib.Omega.{arith}
use lib.Dec.{ltb}
use lib.ListN.{length, length-append}
use borrow.Author.Tests.{le-leb, leb-true, lt-ltb, ltb-true, not-true}
use Rattle.octets.proofs.Search.{and_true}
use Rattle.octets.proofs.Sublists.{all_last, any_map, distinct_last, distinct_map}
use Rattle.address.specs.Address.{address_in, same_address, stands}
use Rattle.address.specs.declared.Address.{Address}
use Rattle.address.specs.declared.End.TheVariants.{At, Never}
use Rattle.address.specs.declared.Hold.{Hold}
use Rattle.address.proofs.Numbers.{same_turned}
use Rattle.addresses.specs.Laws.{address_storable}
use Rattle.holds.specs.Holds.{different, end_after, ends_after}
use Rattle.holds.specs.Laws.{end_storable, hold_storable}
use Rattle.phase.specs.Chosen.{chosen}
use Rattle.phase.specs.Laws.{phase_storable}
use Rattle.phase.specs.Phase.{phase_fits}
use Rattle.phase.specs.Stage.{is_in}
use Rattle.phase.specs.Stage as Stage
use Rattle.phase.specs.declared.Phase.TheVariants.{Idle}
use Rattle.record.specs.Changes.{in_phase}
use Rattle.record.specs.Line.{Line}
use Rattle.record.specs.Sound.{chosen_free}
use Rattle.timer.proofs.Lengths.{seconds_fit}
use Rattle.timer.specs.Timer.{timer_of}
use Rattle.timer.specs.declared.Timer.{Timer}
use Rattle.rules.specs.Life.{congested, chosen_hold, timer_hold}
use Rattle.rules.proofs.Moves.{children_stay, rests, room_left}
use Rattle.rules.proofs.Phases.{chosen_storable}
use Rattle.rules.proofs.Valid.{HoldsValid, Valid}

-- the end of a hold of n seconds
module _ (time n : ℕ) (small : ltb time (256 ^ 4) ≡ true) (fits : (0 < n) × (n ≤ 35_712_000)) where
  end_late : ltb time (time + n) ≡ true
  end_late = lt-ltb time (time + n) (omega arith)

  end_storable_lem : ltb 0 (time + n) && ltb (time + n) (256 ^ 5) ≡ true
  end_storable_lem =
      let early : time < 256 ^ 4 = ltb-true time (256 ^ 4) small in
      and_true (ltb 0 (time + n)) (ltb (time + n) (256 ^ 5)) (lt-ltb 0 (time + n) (omega arith)) (lt-ltb (time + n) (256 ^ 5) (omega arith))

module _ (x : Line) (v : Valid x) (calm : is_in Stage.live x.phase ≡ false) (busy : is_in Stage.idle x.phase ≡ false) where
  -- the holds as they were
  same_holds : HoldsValid x.time Idle (x.holds ++ [])
  unfolding in_phase
  same_holds = subst (HoldsValid x.time Idle) (sym (append-nil x.holds)) (rests x v calm).holds_valid

  -- a hold of the chosen address
  module _ (h : Hold) (own : chosen x.phase ≡ Some h.address) where
    own_free : stands h.address (map address_in x.holds) ≡ false
    unfolding chosen_free
    own_free =
        not-true (stands h.address (map address_in x.holds))
        (ap (λ (o : Option Address). chosen_free o (map address_in x.holds)) (sym own) ∙ v.holds_valid.free)

    more_different : different (map address_in (x.holds ++ h ∷ [])) ≡ true
    unfolding different stands address_in
    more_different =
        distinct_map address_in same_address (x.holds ++ h ∷ [])
        ∙ distinct_last (λ g k. same_address (address_in g) (address_in k)) (λ g k. same_turned (address_in g) (address_in k)) x.holds h
        (sym (any_map address_in (same_address h.address) x.holds) ∙ own_free) (sym (distinct_map address_in same_address x.holds) ∙ v.holds_valid.differ)

    one_hold : ends_after x.time h ≡ true → hold_storable h ≡ true → HoldsValid x.time Idle (x.holds ++ h ∷ [])
    unfolding is_in chosen_free chosen
    one_hold late storable =
        let o = v.holds_valid in
        record {
          few = le-leb (length (x.holds ++ h ∷ [])) 8 (omega (arith, length-append x.holds (h ∷ []), leb-true (length x.holds) 7 (room_left x v calm busy)));
          room = refl;
          differ = more_different;
          free = refl;
          late = all_last (ends_after x.time) x.holds h o.late late;
          storable = all_last hold_storable x.holds h o.storable storable;
        }

  -- the hold that the timer sets, or none
  more_holds : (o : Option Address) → chosen x.phase ≡ o → (t : Timer) → ((n : ℕ) → t ≡ Timer.Seconds n → (0 < n) × (n ≤ 35_712_000)) → HoldsValid x.time Idle (x.holds ++ chosen_hold x.time t o)
  unfolding chosen_hold timer_hold ends_after end_after hold_storable end_storable
  more_holds None e t fits = same_holds
  more_holds (Some a) e Timer.None fits = same_holds
  more_holds (Some a) e (Timer.Seconds n) fits =
      let own = chosen_storable x.phase a e v.phase_valid.storable in
      let end = x.time + n in
      let storable = and_true (address_storable a) (ltb 0 end && ltb end (256 ^ 5)) own (end_storable_lem x.time n v.small (fits n refl)) in
      one_hold (record { address = a; end = At end }) e (end_late x.time n v.small (fits n refl)) storable
  more_holds (Some a) e Timer.Deactivated fits =
      let own = chosen_storable x.phase a e v.phase_valid.storable in
      one_hold (record { address = a; end = Never }) e refl (and_true (address_storable a) true own refl)

  -- a line with a chosen address and a timer octet
  pub congested_valid : (octet : ℕ) → octet ≤ 255 → Valid (congested x (timer_of octet))
  unfolding congested phase_fits phase_storable
  congested_valid octet h = record {
    small = v.small;
    phase_valid = record { fits = refl; storable = refl };
    children_valid = children_stay x v calm Idle;
    holds_valid = more_holds (chosen x.phase) refl (timer_of octet) (λ n. seconds_fit octet n h);
  }
