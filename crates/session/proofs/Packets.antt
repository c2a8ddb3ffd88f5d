-- What a packet comes to by the phase that was found, and what the answer to it has to show.
use Rattle.std.specs.Prelude.{Option, Some, Result, Ok, Err}
use Prim.Native.Nat.{ℕ}
use mathlib.Core.Bool.{true, false}
use mathlib.Core.List.{List, []}
use mathlib.Core.Path.{◌≡◌, refl, sym, ap, ◌∙◌}
use native.Mathlib.Omega.{arith}
use Rattle.octets.specs.Part.{padded, part, zeros}
use Rattle.eap.specs.Packet.{is_request, read_packet}
use Rattle.eap.specs.declared.Packet.{Packet}
use Rattle.eap.specs.declared.Packet.TheVariants.{Start, NasRequest, Success, NasResponse, Stop}
use Rattle.eap.proofs.Reading.{request_within}
use Rattle.record.specs.Line.{Line}
use Rattle.refusal.specs.declared.Refusal.{Refusal}
use Rattle.rules.specs.Answer.{PartWithin, event_room, lent_in, numbers_of, part_named, twelve}
use Rattle.rules.specs.Call.{eap}
use Rattle.rules.specs.Life.{goes, keeps, outcome, packet_taken}
use Rattle.rules.specs.Refusals.{has_no_room, is_allowed, is_held_full, is_malformed, is_out_of_range, is_some_request, is_spi_taken}
use Rattle.rules.specs.declared.Action.TheVariants.{Nothing}
use Rattle.session.specs.Session.{Takes}
use Rattle.step.specs.Step.{Timely, action_in, effect, effect_in}
use Rattle.step.specs.declared.Done.{Done}
use Rattle.step.proofs.Shown.{done, malformed, untimely}

-- a packet that is none of the three is turned away
pub foreign : (p : Packet) → ((i : ℕ) → p ≡ Start i → ⊥) → ((i at n : ℕ) → p ≡ NasRequest i at n → ⊥) → ((i : ℕ) → p ≡ Success i → ⊥) → is_request p ≡ false
unfolding is_request
foreign (Start i) other h k = absurd (other i refl)
foreign (NasRequest i at n) h other k = absurd (other i at n refl)
foreign (Success i) h k other = absurd (other i refl)
foreign (NasResponse i q m at n) h k o = refl
foreign (Stop i) h k o = refl

module _ (l : List ℕ) (x : Line) where
  -- the part is what the action's numbers name
  named : (p : Packet)
      → packet_taken x l (Some p)
      ≡ record {
        line = (packet_taken x [] (Some p)).line;
        action = (packet_taken x [] (Some p)).action;
        part = part_named (numbers_of (packet_taken x [] (Some p)).action) [] [] l;
        written = [];
      }
  unfolding packet_taken keeps goes part_named numbers_of twelve lent_in part
  named (Start i) = refl
  named (NasRequest i at n) = refl
  named (Success i) = refl
  named (NasResponse i q m at n) = refl
  named (Stop i) = refl

  -- and it lies within the packet
  within : (p : Packet) → Some p ≡ read_packet l → PartWithin (numbers_of (packet_taken x [] (Some p)).action) [] [] l
  unfolding packet_taken keeps goes numbers_of twelve lent_in
  within (Start i) e = omega arith
  within (NasRequest i at n) e = request_within l i at n e
  within (Success i) e = omega arith
  within (NasResponse i q m at n) e = omega arith
  within (Stop i) e = omega arith

-- a refusal names no part
pub none_named : (l : List ℕ) → part_named (numbers_of Nothing) [] [] l ≡ []
unfolding part_named numbers_of twelve lent_in part
none_named l = refl

pub none_within : (l : List ℕ) → PartWithin (numbers_of Nothing) [] [] l
unfolding numbers_of twelve lent_in
none_within l = omega arith

-- what the answer to a packet's octets has to show
pub record Shown (l : List ℕ) (time : ℕ) (x : Line) (s : Result Done Refusal) : Type 0 where
  pub effect_is : effect_in x s (part_named (numbers_of (action_in s)) [] [] l) [] ≡ effect (eap l) time x
  pub part_within : PartWithin (numbers_of (action_in s)) [] [] l

module _ (l : List ℕ) {time : ℕ} {x f : Line} (found : Timely f time x) where
  -- octets that are read as no packet that is taken apart are malformed
  pub unread : (o : Option Packet) → o ≡ read_packet l → is_some_request o ≡ false → effect_in x (Err Refusal.Malformed) [] [] ≡ effect (eap l) time x
  unfolding event_room is_malformed is_out_of_range zeros
  unread o read foreign = malformed (eap l) found refl (rw (sym read, foreign) refl)

  -- a packet that is taken apart is refused where it is not due, and its outcome is the definition's where it is
  pub shown : (p : Packet) → Some p ≡ read_packet l → is_request p ≡ true → (s : Result Done Refusal) → Takes s f p → Shown l time x s
  unfolding event_room has_no_room is_allowed is_held_full is_malformed is_out_of_range is_some_request is_spi_taken outcome padded zeros
  shown p read apart (Ok d) t =
      let formed : is_malformed (eap l) ≡ false = rw (sym read, apart) refl in
      let allowed : is_allowed (eap l) f ≡ true = rw (sym read) t.due in
      let is = ap (packet_taken f l) (sym read) ∙ named l f p in
      record {
        effect_is = rw t.action_is (done (eap l) found refl formed allowed refl refl refl is t.line_is refl);
        part_within = rw t.action_is (within l f p read);
      }
  shown p read apart (Err r) t =
      let formed : is_malformed (eap l) ≡ false = rw (sym read, apart) refl in
      let early : is_allowed (eap l) f ≡ false = rw (sym read) t.not_due in
      record {
        effect_is = rw (none_named l, t.refused) (untimely (eap l) found refl formed early);
        part_within = none_within l;
      }
