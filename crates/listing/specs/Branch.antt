-- What the private functions store, in the terms of the rules' `Listing`.
use Rattle.std.specs.Prelude.{ℕ, cond, List, [], ◌++◌, ltb, length, Option, None, Some}
use Rattle.octets.specs.Row.{joined}
use Rattle.children.specs.declared.Child.{Child}
use Rattle.phase.specs.Chosen.{chosen}
use Rattle.phase.specs.Stage.{stage_of}
use Rattle.phase.specs.declared.Phase.{Phase}
use Rattle.record.specs.Line.{Line}
use Rattle.record.specs.Octets.{line_from}
use Rattle.table.specs.Table.{record_count, slot}
use Rattle.text.specs.Text.{text, decimal}
use Rattle.rules.specs.Listing.{address_text, child_text, line_text, newline, tab, word}

-- a line's record as far as its address
unfoldable pub head_text : ℕ → Phase → List ℕ
head_text n p = text "line" ++ tab ++ decimal n ++ tab ++ text (word (stage_of p)) ++ tab ++ address_text (chosen p)

-- the count of its children, and their records
unfoldable pub tail_text : ℕ → List Child → List ℕ
tail_text n cs = tab ++ decimal (length cs) ++ newline ++ joined (child_text n) cs

-- the line in the used record with a number, none past the last one
unfoldable pub line_in : List ℕ → ℕ → Option Line
line_in l i = cond (ltb i record_count) (Some (line_from (slot l i))) None

-- a line, where it is open
unfoldable pub open_text : ℕ → Option Line → List ℕ
open_text n None = []
open_text n (Some x) = line_text n x
