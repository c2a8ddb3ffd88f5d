-- A phase in range is read back from its octets, part by part, and what is read is in range.
use Rattle.std.specs.Prelude.{Option, None, Some}
use Prim.Native.Nat.{ℕ, ◌+◌, ◌≤◌, ◌<◌}
use mathlib.Core.Bool.{true, ◌&&◌, false≢true}
use mathlib.Core.List.{List, ◌++◌}
use mathlib.Core.Path.{◌≡◌, refl}
use native.Mathlib.Omega.{arith}
use lib.Dec.{leb, ltb, eqb}
use lib.ListN.{length}
use borrow.Author.Tests.{leb-true, ltb-true, lt-ltb}
use Rattle.octets.specs.Digits.{be, digits, field}
use Rattle.octets.specs.Laws.{below}
use Rattle.octets.specs.Part.{part, zeros, zeros_at}
use Rattle.octets.specs.Search.{all_of}
use Rattle.octets.proofs.Fields.{field_below}
use Rattle.octets.proofs.Parts.{both}
use Rattle.octets.proofs.Search.{and_left, and_right, and_true, cond_passes}
use Rattle.octets.proofs.Stands.{Stands, from_part, before, behind, says, zeros_stand}
use Rattle.network.specs.declared.Plmn.{Plmn}
use Rattle.address.specs.Address.{is_version}
use Rattle.address.specs.declared.Address.{Address}
use Rattle.address.proofs.Numbers.{version_small}
use Rattle.addresses.specs.Addresses.{address_octets, address_from, is_address}
use Rattle.addresses.specs.Laws.{address_storable}
use Rattle.addresses.proofs.RoundTrip as Addresses
use Rattle.addresses.proofs.Widths.{address_wide}
use Rattle.place.specs.declared.Facts.{Facts}
use Rattle.place.specs.declared.Place.{Place}
use Rattle.place.specs.declared.Place.TheVariants.{Unknown, Home, Abroad}
use Rattle.phase.specs.Facts.{place_octets, place_from, place_fits, place_written, registered_octets, registered_from, registered_fits, registered_written, facts_octets, facts_from, facts_fit, facts_written}
use Rattle.phase.specs.Laws.{turn_storable, phase_storable}
use Rattle.phase.specs.Phase.{asking_octets, having_octets, is_abroad, phase_fits, phase_from, phase_octets, phase_written, turn_from, turn_octets, turn_written, having_from}
use Rattle.phase.specs.declared.Phase.{Phase}
use Rattle.phase.specs.declared.Phase.TheVariants.{Idle, Country, Name, Chosen, Init, Auth, Eap, Sure, Live}
use Rattle.phase.specs.declared.Turn.{Turn}
use Rattle.phase.specs.declared.Turn.TheVariants.{First, Owed, Answered}
use Rattle.phase.proofs.Writes.{place_length, registered_length, facts_length}

module _ (l : List ℕ) (at : ℕ) {r : List ℕ} where
  place_back : (p : Place) → place_fits p ≡ true → Stands l at (place_octets p) r → (place_from l at ≡ p) × (place_written l at ≡ true)
  unfolding place_octets place_from place_fits place_written be digits zeros
  place_back Unknown h e = absurd (false≢true h)
  place_back Home h e =
      let kind : field l at 1 ≡ 1 = says 1 1 (omega arith) (before (be 1 1) (be 2 0) e) in
      let none : zeros_at l (at + 1) 2 ≡ true = zeros_stand 2 (behind (be 1 1) (be 2 0) 1 refl e) in
      (rw kind, rw (kind, none))
  place_back (Abroad mcc) h e =
      let small : mcc ≤ 999 = leb-true mcc 999 h in
      let kind : field l at 1 ≡ 2 = says 1 2 (omega arith) (before (be 1 2) (be 2 mcc) e) in
      let country : field l (at + 1) 2 ≡ mcc = says 2 mcc (omega arith) (behind (be 1 2) (be 2 mcc) 1 refl e) in
      (rw (kind, country), rw kind)

  registered_back : (p : Option Plmn) → registered_fits p ≡ true → Stands l at (registered_octets p) r → (registered_from l at ≡ p) × (registered_written l at ≡ true)
  unfolding registered_octets registered_from registered_fits registered_written be digits zeros
  registered_back None h e =
      let kind : field l at 1 ≡ 0 = says 1 0 (omega arith) (before (be 1 0) (zeros 4) e) in
      let none : zeros_at l (at + 1) 4 ≡ true = zeros_stand 4 (behind (be 1 0) (zeros 4) 1 refl e) in
      (rw kind, rw (kind, none))
  registered_back (Some p) h e =
      let two = before (be 1 1 ++ be 2 p.mcc) (be 2 p.mnc) e in
      let small-mcc : p.mcc ≤ 999 = leb-true p.mcc 999 (and_left (leb p.mcc 999) (leb p.mnc 999) h) in
      let small-mnc : p.mnc ≤ 999 = leb-true p.mnc 999 (and_right (leb p.mcc 999) (leb p.mnc 999) h) in
      let kind : field l at 1 ≡ 1 = says 1 1 (omega arith) (before (be 1 1) (be 2 p.mcc) two) in
      let country : field l (at + 1) 2 ≡ p.mcc = says 2 p.mcc (omega arith) (behind (be 1 1) (be 2 p.mcc) 1 refl two) in
      let network : field l (at + 3) 2 ≡ p.mnc = says 2 p.mnc (omega arith) (behind (be 1 1 ++ be 2 p.mcc) (be 2 p.mnc) 3 refl e) in
      (rw (kind, country, network), rw kind)

  -- how far an EAP session is, by its first octet
  two_octets : (n i : ℕ) → n < 256 → ltb i 256 ≡ true → Stands l at (be 1 n ++ be 1 i) r → (field l at 1 ≡ n) × (field l (at + 1) 1 ≡ i)
  unfolding be digits
  two_octets n i g h e =
      let small : i < 256 = ltb-true i 256 h in
      (says 1 n (omega arith) (before (be 1 n) (be 1 i) e), says 1 i (omega arith) (behind (be 1 n) (be 1 i) 1 refl e))

  turn_back : (t : Turn) → turn_storable t ≡ true → Stands l at (turn_octets t) r → (turn_from l at ≡ t) × (turn_written l at ≡ true)
  unfolding turn_octets turn_from turn_storable turn_written
  turn_back (First i) h e = let f = two_octets 1 i (omega arith) h e in (rw (f.0, f.1), rw f.0)
  turn_back (Owed i) h e = let f = two_octets 2 i (omega arith) h e in (rw (f.0, f.1), rw f.0)
  turn_back (Answered i) h e = let f = two_octets 3 i (omega arith) h e in (rw (f.0, f.1), rw f.0)

module _ (l : List ℕ) (at : ℕ) {r : List ℕ} where
  facts_back : (f : Facts) → facts_fit f ≡ true → Stands l at (facts_octets f) r → (facts_from l at ≡ f) × (facts_written l at ≡ true)
  unfolding facts_octets facts_from facts_fit facts_written
  facts_back f h e =
      let p = f.place in
      let q = f.registered in
      let v = f.version in
      let fits = and_left (place_fits p && registered_fits q) (is_version v) h in
      let two = before (place_octets p ++ registered_octets q) (be 1 v) e in
      let place = place_back l at p (and_left (place_fits p) (registered_fits q) fits) (before (place_octets p) (registered_octets q) two) in
      let registered =
      registered_back l (at + 3) q (and_right (place_fits p) (registered_fits q) fits)
      (behind (place_octets p) (registered_octets q) 3 (place_length p) two) in
      let small : v < 256 = version_small v (and_right (place_fits p && registered_fits q) (is_version v) h) in
      let version : field l (at + 8) 1 ≡ v =
      says 1 v (omega arith)
      (behind (place_octets p ++ registered_octets q) (be 1 v) 8 (both (place_octets p) (registered_octets q) 3 5 (place_length p) (registered_length q)) e) in
      (rw (place.0, registered.0, version), rw (place.1, registered.1))

-- what stands in the octets of a phase, by its number
module _ (l : List ℕ) (at : ℕ) {r : List ℕ} (n : ℕ) (octet : n < 256) where
  asking_back : (f : Facts) → facts_fit f ≡ true → Stands l at (asking_octets n f) r
      → (field l at 1 ≡ n) × (facts_from l (at + 1) ≡ f) × (facts_written l (at + 1) ≡ true) × (zeros_at l (at + 10) 10 ≡ true)
  unfolding asking_octets be digits
  asking_back f h e =
      let two = before (be 1 n ++ facts_octets f) (zeros 10) e in
      let facts = facts_back l (at + 1) f h (behind (be 1 n) (facts_octets f) 1 refl two) in
      let none = zeros_stand 10 (behind (be 1 n ++ facts_octets f) (zeros 10) 10 (both (be 1 n) (facts_octets f) 1 9 refl (facts_length f)) e) in
      (says 1 n (omega arith) (before (be 1 n) (facts_octets f) two), facts.0, facts.1, none)

  having_back : (a : Address) → address_storable a ≡ true → (b : List ℕ) → Stands l at (be 1 n ++ address_octets a ++ b) r
      → (field l at 1 ≡ n) × (address_from l (at + 1) ≡ a) × (is_address l (at + 1) ≡ true) × Stands l (at + 18) b r
  unfolding be digits
  having_back a h b e =
      let two = before (be 1 n ++ address_octets a) b e in
      let address = Addresses.address_back l (at + 1) a h (behind (be 1 n) (address_octets a) 1 refl two) in
      let rest = behind (be 1 n ++ address_octets a) b 18 (both (be 1 n) (address_octets a) 1 17 refl (address_wide a)) e in
      (says 1 n (omega arith) (before (be 1 n) (address_octets a) two), address.0, address.1, rest)

  -- a phase that keeps an address alone
  alone_back : (a : Address) → address_storable a ≡ true → Stands l at (having_octets n a) r
      → (field l at 1 ≡ n) × (address_from l (at + 1) ≡ a) × (is_address l (at + 1) ≡ true) × (zeros_at l (at + 18) 2 ≡ true)
  unfolding having_octets
  alone_back a h e =
      let f = having_back a h (zeros 2) e in
      (f.0, f.1, f.2, zeros_stand 2 f.3)

module _ (l : List ℕ) (at : ℕ) where
  idle_back : {r : List ℕ} → Stands l at (zeros 20) r → (phase_from l at ≡ Idle) × (phase_written l at ≡ true)
  unfolding phase_from having_from phase_written be digits zeros
  idle_back e =
      let number : field l at 1 ≡ 0 = says 1 0 (omega arith) (before (be 1 0) (zeros 19) e) in
      let none : zeros_at l (at + 1) 19 ≡ true = zeros_stand 19 (behind (be 1 0) (zeros 19) 1 refl e) in
      (rw number, rw (number, none))

  phase_back : {r : List ℕ} (p : Phase) → phase_fits p ≡ true → phase_storable p ≡ true → Stands l at (phase_octets p) r → (phase_from l at ≡ p) × (phase_written l at ≡ true)
  unfolding phase_octets phase_fits phase_from having_from phase_storable phase_written
  phase_back Idle g h e = idle_back e
  phase_back (Country f) g h e = let b = asking_back l at 1 (omega arith) f (and_left (facts_fit f) (is_abroad f.place) g) e in (rw (b.0, b.1), rw (b.0, b.2, b.3))
  phase_back (Name f) g h e = let b = asking_back l at 2 (omega arith) f g e in (rw (b.0, b.1), rw (b.0, b.2, b.3))
  phase_back (Chosen a) g h e = let b = alone_back l at 3 (omega arith) a h e in (rw (b.0, b.1), rw (b.0, b.2, b.3))
  phase_back (Init a) g h e = let b = alone_back l at 4 (omega arith) a h e in (rw (b.0, b.1), rw (b.0, b.2, b.3))
  phase_back (Auth a) g h e = let b = alone_back l at 5 (omega arith) a h e in (rw (b.0, b.1), rw (b.0, b.2, b.3))
  phase_back (Eap a t) g h e =
      let b = having_back l at 6 (omega arith) a (and_left (address_storable a) (turn_storable t) h) (turn_octets t) e in
      let turn = turn_back l (at + 18) t (and_right (address_storable a) (turn_storable t) h) b.3 in
      (rw (b.0, b.1, turn.0), rw (b.0, b.2, turn.1))
  phase_back (Sure a) g h e = let b = alone_back l at 7 (omega arith) a h e in (rw (b.0, b.1), rw (b.0, b.2, b.3))
  phase_back (Live a) g h e = let b = alone_back l at 8 (omega arith) a h e in (rw (b.0, b.1), rw (b.0, b.2, b.3))

pub read_back : (l : List ℕ) (at : ℕ) (p : Phase) → phase_fits p ≡ true → phase_storable p ≡ true → part l at 20 ≡ phase_octets p
    → (phase_from l at ≡ p) × (phase_written l at ≡ true)
read_back l at p g h e = phase_back l at p g h (from_part l at 20 (phase_octets p) e)

-- what is read from octets fits them
turn_storable_lem : (l : List ℕ) (at : ℕ) → all_of (below 256) l ≡ true → at + 2 ≤ length l → turn_storable (turn_from l at) ≡ true
unfolding turn_from turn_storable
turn_storable_lem l at octets fits =
    let i = field l (at + 1) 1 in
    let small : ltb i 256 ≡ true = lt-ltb i 256 (field_below l octets (at + 1) 1 (omega arith)) in
    cond_passes turn_storable (eqb (field l at 1) 1) (First i) _ small (cond_passes turn_storable (eqb (field l at 1) 2) (Owed i) (Answered i) small small)

pub storable : (l : List ℕ) (at : ℕ) → all_of (below 256) l ≡ true → at + 20 ≤ length l → phase_storable (phase_from l at) ≡ true
unfolding phase_from having_from phase_storable
storable l at octets fits =
    let n = field l at 1 in
    let f = facts_from l (at + 1) in
    let a = address_from l (at + 1) in
    let t = turn_from l (at + 18) in
    let h : address_storable a ≡ true = Addresses.storable l (at + 1) octets (omega arith) in
    let eap : address_storable a && turn_storable t ≡ true = and_true (address_storable a) (turn_storable t) h (turn_storable_lem l (at + 18) octets (omega arith)) in
    cond_passes phase_storable (eqb n 0) Idle _ refl
    (cond_passes phase_storable (eqb n 1) (Country f) _ refl
    (cond_passes phase_storable (eqb n 2) (Name f) _ refl
    (cond_passes phase_storable (eqb n 3) (Chosen a) _ h
    (cond_passes phase_storable (eqb n 4) (Init a) _ h
    (cond_passes phase_storable (eqb n 5) (Auth a) _ h
    (cond_passes phase_storable (eqb n 6) (Eap a t) _ eap (cond_passes phase_storable (eqb n 7) (Sure a) (Live a) h h)))))))
