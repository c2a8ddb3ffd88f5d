-- What holds of what an event comes to, for every table; the function `laws` promises it.
use Rattle.std.specs.Prelude.{ℕ, zero, suc, true, false, List, ◌≡◌, ltb, Some}
use Rattle.record.specs.Line.{Line}
use Rattle.table.specs.Slots.{Used, put}
use Rattle.table.specs.Table.{is_table}
use Rattle.rules.specs.Answer.{numbers_of}
use Rattle.rules.specs.Call.{Event, timed, pair_of}
use Rattle.rules.specs.Refusals.{is_no_pair, is_short}
use Rattle.rules.specs.Run.{Result, run}
use Rattle.rules.specs.View.{line_seen, view_in}
use Rattle.step.specs.Step.{Effect, effect}

-- by the refusal number: a line is stored in its pair's record unless its event is refused
unfoldable pub stored_by : ℕ → ℕ → Line → List ℕ → List ℕ
stored_by zero pair x l = put l pair (Used pair x)
stored_by (suc n) pair x l = l

-- what a call returns by what its event comes to on the line of a pair
unfoldable pub result_by : Effect → ℕ → List ℕ → Result
result_by f pair l =
    record {
      answer = record { refusal = f.refusal; numbers = numbers_of f.action; part = f.part; buffer = f.buffer };
      table = stored_by f.refusal pair f.line l;
    }

pub record Laws : Type 0 where
  -- where none of the refusals from 1 to 7 applies to a timed call, its result is that of its event on the line that it names
  pub effect_run : (tenant line time : ℕ) (e : Event) (l : List ℕ) (x : Line) → is_table l ≡ true → is_no_pair (timed tenant line time e) ≡ false
      → is_short (timed tenant line time e) ≡ false → line_seen (view_in (timed tenant line time e) l) line ≡ Some x → ltb time x.time ≡ false
      → run (timed tenant line time e) l ≡ result_by (effect e time x) (pair_of tenant line) l
