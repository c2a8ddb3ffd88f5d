-- What the tests at the entry of a timed call settle, whatever its event is.
use Rattle.std.specs.Prelude.{ℕ, Bool, false, not, List, [], ◌∷◌, ◌≡◌, Result, Ok, Err}
use Rattle.octets.specs.Digits.{field}
use Rattle.octets.specs.Refusal.{Refusal, ◌when◌}
use Rattle.refusal.specs.Numbers.{number_of}
use Rattle.refusal.specs.declared.Refusal as Refused
use Rattle.record.specs.Octets.{line_from}
use Rattle.table.specs.Table.{is_table, record_of, slot, UsedAt}
use Rattle.rules.specs.Answer.{refused}
use Rattle.rules.specs.Call.{Event, timed}
use Rattle.rules.specs.Refusals.{is_above_last, is_short}
use Rattle.rules.specs.Run.{run}
use Rattle.step.specs.Laws.{result_by}
use Rattle.step.specs.Step.{effect}
use Rattle.frame.specs.declared.Entered.{Entered}

-- the refusals by 1, 2 and 3, of a pair and of an answer buffer that is too short or not
unfoldable pub first_refusals : List ℕ → ℕ → ℕ → Bool → List Refusal
first_refusals l tenant line short = (1 when not (is_table l)) ∷ (2 when is_above_last tenant line) ∷ (3 when short) ∷ []

-- the record that a call is about is the first of its pair, and sound
pub record Stands (r : Entered) (l : List ℕ) : Type 0 where
  pub used : UsedAt l r.at
  pub at_is : r.at ≡ record_of l r.pair
  pub pair_is : field (slot l r.at) 0 1 ≡ r.pair

-- the tests are passed: the pair's record is used, and the call's result is that of its event on the line in it
pub record Passes (r : Entered) (tenant line time : ℕ) (short : Bool) (l : List ℕ) : Type 0 where
  pub result_is : (e : Event) → is_short (timed tenant line time e) ≡ short
      → run (timed tenant line time e) l ≡ result_by (effect e time (line_from (slot l r.at))) r.pair l
  pub buffer_fits : short ≡ false
  pub stands : Stands r l

-- the entry tests of a call at a time whose answer buffer is too short or not: refused, or passed
abbrev pub Enters : Result Entered Refused.Refusal → ℕ → ℕ → ℕ → Bool → List ℕ → Type 0
Enters (Ok r) tenant line time short l = Passes r tenant line time short l
Enters (Err n) tenant line time short l =
    (e : Event) → is_short (timed tenant line time e) ≡ short → run (timed tenant line time e) l ≡ record { answer = refused (number_of n) (timed tenant line time e); table = l }
