-- EAP packets and replies: an identifier is one octet.
use Rattle.std.specs.Prelude.{Option, None, Some}
use Prim.Native.Nat.{ℕ, ◌+◌, ◌≤◌, ◌<◌}
use mathlib.Core.Bool.{Bool, true, false, cond}
use mathlib.Core.List.{List}
use mathlib.Core.Path.{◌≡◌, refl}
use native.Mathlib.Nat.{lt_of_lt_of_le, min-le_left, pow-le-pow_right}
use native.Mathlib.Omega.{arith}
use lib.Dec.{ltb}
use lib.ListN.{length, drop, length-take}
use borrow.Author.Tests.{lt-ltb}
use Rattle.octets.specs.Digits.{field}
use Rattle.octets.specs.Laws.{below}
use Rattle.octets.specs.Part.{part}
use Rattle.octets.specs.Search.{all_of}
use Rattle.octets.proofs.Digits.{number_below}
use Rattle.octets.proofs.Fields.{all_of_part}
use Rattle.octets.proofs.Search.{and_true, cond_passes}
use Rattle.address.specs.declared.Address.{Address}
use Rattle.addresses.specs.Laws.{address_storable}
use Rattle.eap.specs.Packet.{identifier, is_message, is_nas_request, is_nas_response, is_success, nas_place, read_packet}
use Rattle.eap.specs.declared.Packet.{Packet}
use Rattle.eap.specs.declared.Packet.TheVariants.{Start, NasRequest, Success, NasResponse, Stop}
use Rattle.phase.specs.Chosen.{chosen}
use Rattle.phase.specs.Laws.{phase_storable, turn_storable}
use Rattle.phase.specs.Phase.{phase_fits}
use Rattle.phase.specs.Stage.{is_in}
use Rattle.phase.specs.Stage as Stage
use Rattle.phase.specs.declared.Phase.{Phase}
use Rattle.phase.specs.declared.Phase.TheVariants.{Eap, Sure, Live}
use Rattle.phase.specs.declared.Turn.{Turn}
use Rattle.phase.specs.declared.Turn.TheVariants.{First, Owed, Answered}
use Rattle.record.specs.Line.{Line}
use Rattle.rules.specs.Life.{goes, keeps, packet_taken, replied}
use Rattle.rules.specs.Phases.{last_reply, owed, turn_in}
use Rattle.rules.specs.Refusals.{is_due, is_identifier}
use Rattle.rules.proofs.Moves.{Carries, goes_on, rests, sure_carries}
use Rattle.rules.proofs.Phases.{identifier_storable, not_live}
use Rattle.rules.proofs.Valid.{Valid}

-- a packet's identifier is one octet, where the line keeps it
unfoldable pub packet_storable : Option Packet → Bool
packet_storable None = true
packet_storable (Some (Start i)) = ltb i 256
packet_storable (Some (NasRequest i at n)) = ltb i 256
packet_storable (Some (Success i)) = true
packet_storable (Some (NasResponse i p m at n)) = true
packet_storable (Some (Stop i)) = true

module _ (l : List ℕ) (octets : all_of (below 256) l ≡ true) where
  -- one octet at a place, or none, says a number below 256
  one_octet : (at : ℕ) → field l at 1 < 256
  unfolding field part
  one_octet at =
      let few : length (part l at 1) ≤ 1 = rw (length-take 1 (drop at l)) (min-le_left 1 (length (drop at l))) in
      lt_of_lt_of_le (number_below 256 (part l at 1) (all_of_part (below 256) l at 1 octets)) (pow-le-pow_right (omega arith) few)

  -- a packet that is read from octets
  pub packet_storable_lem : packet_storable (read_packet l) ≡ true
  unfolding read_packet packet_storable identifier
  packet_storable_lem =
      let i = identifier l in
      let small : ltb (field l 1 1) 256 ≡ true = lt-ltb (field l 1 1) 256 (one_octet 1) in
      let rest = cond (is_message 2 4 l) (Some (Stop i)) None in
      let response = cond (is_nas_response l) (Some (NasResponse i 16 (field l 14 2) (nas_place l + 2) (field l (nas_place l) 2))) rest in
      let request = cond (is_nas_request l) (Some (NasRequest i 16 (field l 14 2))) response in
      let step₁ = cond_passes packet_storable (is_message 2 4 l) (Some (Stop i)) None refl refl in
      let step₂ = cond_passes packet_storable (is_nas_response l) (Some (NasResponse i 16 (field l 14 2) (nas_place l + 2) (field l (nas_place l) 2))) rest refl step₁ in
      let step₃ = cond_passes packet_storable (is_nas_request l) (Some (NasRequest i 16 (field l 14 2))) response small step₂ in
      cond_passes packet_storable (is_success l) (Some (Success i)) (cond (is_message 1 1 l) (Some (Start i)) request) refl
      (cond_passes packet_storable (is_message 1 1 l) (Some (Start i)) request small step₃)

-- phase eap keeps an address and an identifier of one octet
eap_carries : (t : Turn) → turn_storable t ≡ true → Carries (λ a. Eap a t)
unfolding phase_fits phase_storable chosen
eap_carries t h = record { fits = λ a. refl; storable = λ a k. and_true (address_storable a) (turn_storable t) k h; same = λ a. refl }

-- no packet is due on a live line
live_due : (q : Option Packet) (a : Address) → is_due q (Live a) ≡ false
unfolding is_due is_identifier last_reply turn_in is_in
live_due None a = refl
live_due (Some (Start i)) a = refl
live_due (Some (NasRequest i at n)) a = refl
live_due (Some (Success i)) a = refl
live_due (Some (NasResponse i p m at n)) a = refl
live_due (Some (Stop i)) a = refl

-- a line on which a packet is due isn't live
pub due_calm : (q : Option Packet) (p : Phase) → is_due q p ≡ true → is_in Stage.live p ≡ false
due_calm q p e = not_live (is_due q) (live_due q) p e

module _ (x : Line) (v : Valid x) (calm : is_in Stage.live x.phase ≡ false) where
  -- Start, a NAS request and Success keep the chosen address
  pub taken_valid : (packet : List ℕ) (q : Option Packet) → packet_storable q ≡ true → Valid (packet_taken x packet q).line
  unfolding packet_taken keeps goes packet_storable turn_storable
  taken_valid packet None h = rests x v calm
  taken_valid packet (Some (Start i)) h = goes_on x v calm (λ a. Eap a (First i)) (eap_carries (First i) h)
  taken_valid packet (Some (NasRequest i at n)) h = goes_on x v calm (λ a. Eap a (Owed i)) (eap_carries (Owed i) h)
  taken_valid packet (Some (Success i)) h = goes_on x v calm Sure sure_carries
  taken_valid packet (Some (NasResponse i p m at n)) h = rests x v calm
  taken_valid packet (Some (Stop i)) h = rests x v calm

  -- a reply keeps the chosen address and the identifier that was owed
  pub replied_valid : (parameters nas : List ℕ) (o : Option ℕ) → owed (turn_in x.phase) ≡ o → Valid (replied x parameters nas o).line
  unfolding replied goes turn_storable
  replied_valid parameters nas None e = rests x v calm
  replied_valid parameters nas (Some i) e =
      goes_on x v calm (λ a. Eap a (Answered i)) (eap_carries (Answered i) (identifier_storable x.phase i e v.phase_valid.storable))
