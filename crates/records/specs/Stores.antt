-- What becomes of a table where the line of a record goes on to another phase.
use Rattle.std.specs.Prelude.{ℕ, ◌*◌, List, ◌≡◌}
use Rattle.octets.specs.Digits.{field}
use Rattle.octets.specs.Part.{Wrote}
use Rattle.phase.specs.Standing.{Continues, restored, standing}
use Rattle.phase.specs.declared.Phase.{Phase}
use Rattle.phase.specs.declared.Standing.{Standing}
use Rattle.record.specs.Changes.{current, in_phase}
use Rattle.record.specs.Line.{Line}
use Rattle.record.specs.Octets.{line_from, record_length, record_octets}
use Rattle.table.specs.Table.{slot}

-- m is the table l with the line of one record replaced: the line that a call finds, in the phase that its own goes on to and that stands so, changed
abbrev pub GoesAt : List ℕ → ℕ → ℕ → Standing → List ℕ → (Line → Line) → Type 0
GoesAt l i time s m f =
    let x = line_from (slot l i) in
    (q : Phase) → Continues x.phase q → standing q ≡ s
    → Wrote l (record_length * i) (record_octets (field (slot l i) 0 1) (f (in_phase (current time x) (restored x.phase q)))) m
