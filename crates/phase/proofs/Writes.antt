-- What place facts and phases are written as, and the runs of writes that make them, each where the one before it ends.
use Rattle.std.specs.Prelude.{Option, None, Some}
use Prim.Native.Nat.{ℕ, ◌+◌}
use mathlib.Core.List.{List, ◌++◌}
use mathlib.Core.Path.{◌≡◌, refl, sym, ap}
use lib.ListN.{length}
use Rattle.octets.specs.Digits.{be, digits}
use Rattle.octets.specs.Part.{zeros, Wrote}
use Rattle.octets.proofs.Octets.{Octets, joins, be_octets, zeros_octets}
use Rattle.octets.proofs.Parts.{both, then}
use Rattle.network.specs.declared.Plmn.{Plmn}
use Rattle.address.specs.declared.Address.{Address}
use Rattle.addresses.specs.Addresses.{address_octets}
use Rattle.addresses.proofs.RoundTrip as Addresses
use Rattle.addresses.proofs.Widths.{address_wide}
use Rattle.place.specs.declared.Facts.{Facts}
use Rattle.place.specs.declared.Place.{Place}
use Rattle.place.specs.declared.Place.TheVariants.{Unknown, Home, Abroad}
use Rattle.phase.specs.Facts.{place_octets, registered_octets, facts_octets}
use Rattle.phase.specs.Phase.{asking_octets, having_octets, phase_octets, turn_octets}
use Rattle.phase.specs.declared.Phase.{Phase}
use Rattle.phase.specs.declared.Phase.TheVariants.{Idle, Country, Name, Chosen, Init, Auth, Eap, Sure, Live}
use Rattle.phase.specs.declared.Turn.{Turn}
use Rattle.phase.specs.declared.Turn.TheVariants.{First, Owed, Answered}

pub place_length : (p : Place) → length (place_octets p) ≡ 3
unfolding place_octets be digits
place_length Unknown = refl
place_length Home = refl
place_length (Abroad mcc) = refl

pub registered_length : (p : Option Plmn) → length (registered_octets p) ≡ 5
unfolding registered_octets be digits
registered_length None = refl
registered_length (Some p) = refl

pub facts_length : (f : Facts) → length (facts_octets f) ≡ 9
unfolding facts_octets be digits
facts_length f =
    let p = f.place in
    let q = f.registered in
    both (place_octets p ++ registered_octets q) (be 1 f.version) 8 1 (both (place_octets p) (registered_octets q) 3 5 (place_length p) (registered_length q)) refl

pub turn_length : (t : Turn) → length (turn_octets t) ≡ 2
unfolding turn_octets be digits
turn_length (First i) = refl
turn_length (Owed i) = refl
turn_length (Answered i) = refl

asking_length : (n : ℕ) (f : Facts) → length (asking_octets n f) ≡ 20
unfolding asking_octets be digits zeros
asking_length n f = both (be 1 n ++ facts_octets f) (zeros 10) 10 10 (both (be 1 n) (facts_octets f) 1 9 refl (facts_length f)) refl

having_length : (n : ℕ) (a : Address) → length (having_octets n a) ≡ 20
unfolding having_octets be digits zeros
having_length n a = both (be 1 n ++ address_octets a) (zeros 2) 18 2 (both (be 1 n) (address_octets a) 1 17 refl (address_wide a)) refl

pub phase_length_lem : (p : Phase) → length (phase_octets p) ≡ 20
unfolding phase_octets be digits zeros
phase_length_lem Idle = refl
phase_length_lem (Country f) = asking_length 1 f
phase_length_lem (Name f) = asking_length 2 f
phase_length_lem (Chosen a) = having_length 3 a
phase_length_lem (Init a) = having_length 4 a
phase_length_lem (Auth a) = having_length 5 a
phase_length_lem (Eap a t) = both (be 1 6 ++ address_octets a) (turn_octets t) 18 2 (both (be 1 6) (address_octets a) 1 17 refl (address_wide a)) (turn_length t)
phase_length_lem (Sure a) = having_length 7 a
phase_length_lem (Live a) = having_length 8 a

octets_of_place : (p : Place) → Octets (place_octets p)
unfolding place_octets
octets_of_place Unknown = joins (be_octets 1 0) (be_octets 2 0)
octets_of_place Home = joins (be_octets 1 1) (be_octets 2 0)
octets_of_place (Abroad mcc) = joins (be_octets 1 2) (be_octets 2 mcc)

octets_of_registered : (p : Option Plmn) → Octets (registered_octets p)
unfolding registered_octets
octets_of_registered None = joins (joins (be_octets 1 0) (be_octets 2 0)) (be_octets 2 0)
octets_of_registered (Some p) = joins (joins (be_octets 1 1) (be_octets 2 p.mcc)) (be_octets 2 p.mnc)

octets_of_turn : (t : Turn) → Octets (turn_octets t)
unfolding turn_octets
octets_of_turn (First i) = joins (be_octets 1 1) (be_octets 1 i)
octets_of_turn (Owed i) = joins (be_octets 1 2) (be_octets 1 i)
octets_of_turn (Answered i) = joins (be_octets 1 3) (be_octets 1 i)

octets_of_asking : (n : ℕ) (f : Facts) → Octets (asking_octets n f)
unfolding asking_octets facts_octets
octets_of_asking n f =
    let facts : Octets (facts_octets f) = joins (joins (octets_of_place f.place) (octets_of_registered f.registered)) (be_octets 1 f.version) in
    joins (joins (be_octets 1 n) facts) (zeros_octets 10)

octets_of_having : (n : ℕ) (a : Address) → Octets (having_octets n a)
unfolding having_octets
octets_of_having n a = joins (joins (be_octets 1 n) (Addresses.octets a)) (zeros_octets 2)

-- every octet of a phase is one
pub octets : (p : Phase) → Octets (phase_octets p)
unfolding phase_octets
octets Idle = zeros_octets 20
octets (Country f) = octets_of_asking 1 f
octets (Name f) = octets_of_asking 2 f
octets (Chosen a) = octets_of_having 3 a
octets (Init a) = octets_of_having 4 a
octets (Auth a) = octets_of_having 5 a
octets (Eap a t) = joins (joins (be_octets 1 6) (Addresses.octets a)) (octets_of_turn t)
octets (Sure a) = octets_of_having 7 a
octets (Live a) = octets_of_having 8 a

-- three writes, where the lengths of the first two are known
module _ {l m n o : List ℕ} {at : ℕ} {a b c : List ℕ} (i j : ℕ) (first : length a ≡ i) (second : length b ≡ j) where
  pub three : Wrote l at a m → Wrote m (at + i) b n → Wrote n (at + (i + j)) c o → Wrote l at (a ++ b ++ c) o
  three p q r =
      then (then p q (ap (λ (k : ℕ). at + k) (sym first))) r (ap (λ (k : ℕ). at + k) (sym (both a b i j first second)))

module _ {l m n o : List ℕ} {at : ℕ} where
  pub facts_wrote : (f : Facts) → Wrote l at (place_octets f.place) m → Wrote m (at + 3) (registered_octets f.registered) n
      → Wrote n (at + 8) (be 1 f.version) o → Wrote l at (facts_octets f) o
  unfolding facts_octets
  facts_wrote f = three 3 5 (place_length f.place) (registered_length f.registered)

  pub asking_wrote : (k : ℕ) (f : Facts) → Wrote l at (be 1 k) m → Wrote m (at + 1) (facts_octets f) n
      → Wrote n (at + 10) (be 10 0) o → Wrote l at (asking_octets k f) o
  unfolding asking_octets be digits zeros
  asking_wrote k f = three 1 9 refl (facts_length f)

  pub having_wrote : (k : ℕ) (a : Address) → Wrote l at (be 1 k) m → Wrote m (at + 1) (address_octets a) n
      → Wrote n (at + 18) (be 2 0) o → Wrote l at (having_octets k a) o
  unfolding having_octets be digits zeros
  having_wrote k a = three 1 17 refl (address_wide a)

  pub eap_wrote : (a : Address) (t : Turn) → Wrote l at (be 1 6) m → Wrote m (at + 1) (address_octets a) n
      → Wrote n (at + 18) (turn_octets t) o → Wrote l at (be 1 6 ++ address_octets a ++ turn_octets t) o
  unfolding be digits
  eap_wrote a t = three 1 17 refl (address_wide a)
