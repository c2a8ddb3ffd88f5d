-- `run`: what a call answers and what it leaves of the table.
use Rattle.std.specs.Prelude.{ℕ, zero, suc, List, [], length}
use Rattle.octets.specs.Part.{padded}
use Rattle.octets.specs.Refusal.{refusal}
use Rattle.record.specs.Line.{Line}
use Rattle.table.specs.Slots.{Slot, Free, Used, put}
use Rattle.table.specs.Table.{free_pair}
use Rattle.rules.specs.Answer.{Answer, event_room, numbers_of, refused}
use Rattle.rules.specs.declared.Action.TheVariants as Action
use Rattle.rules.specs.Call.{Event, Call, opening, closing, listing, timed, pair_of}
use Rattle.rules.specs.Life.{Outcome, outcome}
use Rattle.rules.specs.Listing.{list_from}
use Rattle.rules.specs.Refusals.{refusals}
use Rattle.rules.specs.View.{View, fresh, line_found, view_in}

-- what a call does to the table: nothing, or a slot in the place of the first one of a pair
pub data Act : Type 0 where
  stay : Act
  replace : ℕ → Slot → Act

-- a line is added in the place of a free record
abbrev pub add : ℕ → Line → Act
add pair x = replace free_pair (Used pair x)

-- a line is changed in its own record
abbrev pub change : ℕ → Line → Act
change pair x = replace pair (Used pair x)

-- a line is dropped, and its record is free
abbrev pub drop : ℕ → Act
drop pair = replace pair Free

-- what a call does and answers where no refusal applies
pub record Step : Type 0 where
  pub act : Act
  pub answer : Answer

-- open and close answer nothing but that they are accepted
unfoldable pub bare : Answer
bare = record { refusal = 0; numbers = []; part = []; buffer = [] }

-- the answer of an accepted timed call: the bytes past the written part are zeros
unfoldable pub answer_of : Event → Outcome → Answer
answer_of e o = record { refusal = 0; numbers = numbers_of o.action; part = o.part; buffer = padded (event_room e) o.written }

-- a timed call, with the line as it finds it
unfoldable pub timed_step : ℕ → ℕ → Event → Line → Step
timed_step tenant line e x =
    let o = outcome e x in
    record { act = change (pair_of tenant line) o.line; answer = answer_of e o }

unfoldable pub step : Call → View → Step
step (opening tenant line) v = record { act = add (pair_of tenant line) fresh; answer = bare }
step (closing tenant line) v = record { act = drop (pair_of tenant line); answer = bare }
step (listing tenant room) v =
    let l = list_from 0 v.lines in
    record { act = stay; answer = record { refusal = 0; numbers = numbers_of (Action.Listed (length l)); part = []; buffer = padded room l } }
step (timed tenant line time e) v = timed_step tenant line e (line_found line time v)

-- the table afterwards
unfoldable pub applied : Act → List ℕ → List ℕ
applied stay l = l
applied (replace pair s) l = put l pair s

pub record Result : Type 0 where
  pub answer : Answer
  pub table : List ℕ

-- a refused call leaves the table unchanged; where no refusal applies the call is accepted
unfoldable pub settled : ℕ → Call → Step → List ℕ → Result
settled zero c s l = record { answer = s.answer; table = applied s.act l }
settled (suc n) c s l = record { answer = refused (suc n) c; table = l }

unfoldable pub step_of : Call → List ℕ → Step
step_of c l = step c (view_in c l)

-- the lowest number that applies is given
unfoldable pub run : Call → List ℕ → Result
run c l = settled (refusal (refusals c (view_in c l))) c (step_of c l) l
