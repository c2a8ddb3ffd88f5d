-- What a call on the table returned.
use Rattle.std.specs.Prelude.{ℕ, List, Result, Ok, Err}
use Rattle.octets.specs.Part.{zeros}
use Rattle.refusal.specs.Numbers.{number_in}
use Rattle.refusal.specs.declared.Refusal.{Refusal}
use Rattle.rules.specs.Answer.{number_count, numbers_of}
use Rattle.rules.specs.Run as Run
use Rattle.rules.specs.declared.Action.{Action}

-- the refusal number or 0, the twelve numbers, the octets of the part, the answer buffer whole, and the table afterwards
unfoldable pub returned : ℕ → List ℕ → List ℕ → List ℕ → List ℕ → Run.Result
returned n numbers part buffer table = record {
  answer = record { refusal = n; numbers = numbers; part = part; buffer = buffer };
  table = table;
}

-- the twelve numbers of an action, zeros of a refusal
abbrev pub numbers_in : Result Action Refusal → List ℕ
numbers_in (Ok action) = numbers_of action
numbers_in (Err r) = zeros number_count

-- what a call returned that came to an action or was refused: its number and its twelve numbers, with the part, the answer buffer and the table
abbrev pub told : Result Action Refusal → List ℕ → List ℕ → List ℕ → Run.Result
told r part buffer table = returned (number_in r) (numbers_in r) part buffer table
