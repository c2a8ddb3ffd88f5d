-- What a reply comes to by what is lent with it, by the turn that was found, and by what the buffer holds.
use Rattle.std.specs.Prelude.{Some}
use Prim.Native.Nat.{ℕ, ◌+◌, ◌≤◌}
use mathlib.Core.Bool.{true, false}
use mathlib.Core.List.{List, []}
use mathlib.Core.Path.{◌≡◌, refl, sym, ap, ◌∙◌}
use native.Mathlib.Omega.{arith}
use lib.ListN.{length}
use Rattle.octets.specs.Part.{padded, zeros}
use Rattle.octets.proofs.Parts.{length_zeros}
use Rattle.address.specs.declared.Address.{Address}
use Rattle.phase.specs.Chosen.{chosen}
use Rattle.phase.specs.declared.Phase.TheVariants.{Eap}
use Rattle.phase.specs.declared.Turn.{Turn}
use Rattle.phase.specs.declared.Turn.TheVariants.{Answered}
use Rattle.record.specs.Changes.{in_phase}
use Rattle.record.specs.Line.{Line}
use Rattle.response.specs.Response.{lent_out_of_range, reply_room, response}
use Rattle.response.proofs.Writing.{in_range_lem}
use Rattle.rules.specs.Answer.{event_room}
use Rattle.rules.specs.Call.{reply}
use Rattle.rules.specs.Life.{onward, outcome, replied}
use Rattle.rules.specs.Phases.{owed, turn_in}
use Rattle.rules.specs.Refusals.{has_no_room, is_allowed, is_held_full, is_malformed, is_out_of_range, is_spi_taken}
use Rattle.rules.specs.declared.Action.TheVariants.{SendResponse}
use Rattle.step.specs.Step.{Timely, effect}
use Rattle.step.proofs.Shown.{done}
use Rattle.step.proofs.Steps.{accepted_as}

-- a response fits a buffer that was cleared
pub fits : (p n : List ℕ) → lent_out_of_range p n ≡ false → (room : ℕ) → reply_room ≤ room → (z : List ℕ) → z ≡ zeros room → 18 + length p + length n ≤ length z
fits p n fit room enough z clear =
    let short = in_range_lem p n fit in
    omega (arith, ap length clear ∙ length_zeros room)

-- and such a buffer is zeros
pub clear : (z : List ℕ) (room : ℕ) → z ≡ zeros room → z ≡ zeros (length z)
clear z room e = e ∙ ap zeros (sym (ap length e ∙ length_zeros room))

-- the response with the identifier that was owed, and zeros behind it
module _ (p n z : List ℕ) (room : ℕ) {time : ℕ} {x f : Line} (found : Timely f time x) where
  pub answered : z ≡ zeros room → is_out_of_range (reply p n room) f ≡ false → is_malformed (reply p n room) ≡ false → {a : Address} {t : Turn} → f.phase ≡ Eap a t → {i : ℕ} → owed (Some t) ≡ Some i
      → {y : Line} → y ≡ in_phase f (Eap a (Answered i)) → {k : ℕ} → k ≡ length (response i p n) → {b : List ℕ} → b ≡ padded (length z) (response i p n)
      → accepted_as y (SendResponse k) [] b ≡ effect (reply p n room) time x
  unfolding chosen event_room has_no_room in_phase is_allowed is_held_full is_spi_taken onward outcome replied turn_in
  answered cleared fit formed {a} {t} in_eap_lem {i} is_owed line count buffer =
      let allowed : is_allowed (reply p n room) f ≡ true = rw (in_eap_lem, is_owed) refl in
      let is : outcome (reply p n room) f ≡ record { line = in_phase f (Eap a (Answered i)); action = SendResponse (length (response i p n)); part = []; written = response i p n } =
      rw (in_eap_lem, is_owed) refl in
      rw (buffer, ap length cleared, length_zeros room) (done (reply p n room) found fit formed allowed refl refl refl is line (ap SendResponse count))
