-- What the address answer comes to on the line with other holds, and on the line with its own.
use Rattle.std.specs.Prelude.{Result, Ok, Err, IfOk}
use Prim.Native.Nat.{ℕ, ◌*◌, ◌/◌, ◌%◌, ◌≤◌}
use mathlib.Core.Bool.{true}
use mathlib.Core.List.{List, []}
use mathlib.Core.Path.{◌≡◌, refl, sym, ap, ◌∙◌}
use native.Mathlib.Omega.{arith}
use lib.Dec.{eqb, leb, ltb}
use lib.ListN.{length}
use borrow.Author.Tests.{eqb-true, leb-true}
use Rattle.octets.specs.Part.{padded, zeros}
use Rattle.octets.specs.Refusal.{refusal}
use Rattle.octets.specs.Row.{only}
use Rattle.octets.specs.Search.{all}
use Rattle.octets.proofs.Search.{and_left, and_right}
use Rattle.address.specs.declared.Hold.{Hold}
use Rattle.addresses.specs.Addresses.{address_length}
use Rattle.holds.specs.Holds.{ends_after}
use Rattle.lists.specs.Lists.{addresses_fit, address_fits, most_entries, whole}
use Rattle.phase.specs.declared.Phase.{Phase}
use Rattle.record.specs.Changes.{current, in_phase, with_holds}
use Rattle.record.specs.Line.{Line, line_of}
use Rattle.refusal.specs.Numbers.{number_of}
use Rattle.refusal.specs.declared.Refusal.{Refusal}
use Rattle.rules.specs.Answer.{event_room}
use Rattle.rules.specs.Call.{address, last_time}
use Rattle.rules.specs.Life.{goes, outcome}
use Rattle.rules.specs.Refusals.{has_no_room, is_allowed, is_held_full, is_malformed, is_out_of_range, is_spi_taken, refusals_of}
use Rattle.rules.specs.declared.Action.{Action}
use Rattle.step.specs.Step.{Effect, effect, effect_in, outcome_by}
use Rattle.step.specs.declared.Done.{Done}
use Rattle.step.proofs.Steps.{turned_away}
use Rattle.attempt.specs.Attempt.{answered_on}

-- a list of addresses is no longer than it may be
pub short : (l : List ℕ) → addresses_fit l ≡ true → length l ≤ address_length * most_entries
unfolding addresses_fit whole
short l fit =
    let is_whole = and_left (whole address_length l) (all (length l / address_length) (address_fits l)) fit in
    let rest = eqb-true (length l % address_length) 0 (and_left (eqb (length l % address_length) 0) (leb (length l / address_length) most_entries) is_whole) in
    let count = leb-true (length l / address_length) most_entries (and_right (eqb (length l % address_length) 0) (leb (length l / address_length) most_entries) is_whole) in
    omega arith

module _ (l : List ℕ) (time : ℕ) (x : Line) where
  module _ (hs : List Hold) where
    -- the tests look at no hold
    same_number : refusal (refusals_of (address l) (ltb last_time time) (current time (with_holds x hs))) ≡ refusal (refusals_of (address l) (ltb last_time time) (current time x))
    unfolding refusals_of is_out_of_range is_malformed is_allowed is_spi_taken has_no_room is_held_full current with_holds
    same_number = refl

    -- it is refused
    pub left_held : (r : Refusal) → refusal (refusals_of (address l) (ltb last_time time) (current time x)) ≡ number_of r → answered_on x (Err r) time hs ≡ effect (address l) time (with_holds x hs)
    unfolding event_room zeros
    left_held r number = turned_away (address l) time (with_holds x hs) _ refl r (same_number ∙ number)

    -- it is accepted
    pub gone_held : refusal (refusals_of (address l) (ltb last_time time) (current time x)) ≡ 0 → (d : Done) (p : Phase) (action : Action)
        → outcome (address l) (current time (with_holds x hs)) ≡ goes (current time (with_holds x hs)) p action → line_of d.line ≡ in_phase (current time x) p → d.action ≡ action
        → answered_on x (Ok d) time hs ≡ effect (address l) time (with_holds x hs)
    unfolding effect outcome_by event_room padded zeros goes in_phase current with_holds
    gone_held number d p action is line act = rw (line, act, same_number, number, is)

  -- an accepted effect that returns and writes nothing
  abbrev effect_on : Line → Action → Effect
  effect_on y action = record { refusal = 0; line = y; action = action; part = []; buffer = [] }

  -- on the line with its own holds it is the effect itself
  pub own_holds : (r : Result Done Refusal) → IfOk r (λ d. line_of d.line ≡ in_phase (current time x) d.line.phase)
      → answered_on x r time x.holds ≡ effect (address l) time (with_holds x x.holds) → effect_in x r [] [] ≡ effect (address l) time x
  unfolding with_holds in_phase current
  own_holds (Err r) alone told = told
  own_holds (Ok d) alone told =
      let same : with_holds (line_of d.line) (only (ends_after time) x.holds) ≡ line_of d.line = rw alone refl in
      ap (λ (y : Line). effect_on y d.action) (sym same) ∙ told
