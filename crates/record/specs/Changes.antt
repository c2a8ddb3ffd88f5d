-- Another line made of a line, and what becomes of the record in which it lies.
use Rattle.std.specs.Prelude.{ℕ, ◌≤◌, List, [], ◌∷◌, ◌++◌, ◌≡◌, length, Option, None, Some}
use Rattle.octets.specs.Digits.{field}
use Rattle.octets.specs.Row.{only}
use Rattle.address.specs.Address.{most_holds}
use Rattle.address.specs.declared.Address.{Address}
use Rattle.address.specs.declared.End.{End}
use Rattle.address.specs.declared.Hold.{Hold}
use Rattle.children.specs.Children.{most_children}
use Rattle.children.specs.declared.Child.{Child}
use Rattle.holds.specs.Holds.{ends_after}
use Rattle.phase.specs.Standing.{Continues, restored, standing}
use Rattle.phase.specs.declared.Phase.{Phase}
use Rattle.phase.specs.declared.Phase.TheVariants.{Idle}
use Rattle.phase.specs.declared.Standing.{Standing}
use Rattle.record.specs.Line.{Line}
use Rattle.record.specs.Octets.{line_from, record_octets}

-- a line's ended holds are dropped at each accepted timed call on it, and its time is stored (document 01, 'Life of a line')
unfoldable pub current : ℕ → Line → Line
current time x = record {
  time = time;
  phase = x.phase;
  holds = only (ends_after time) x.holds;
  children = x.children;
}

-- the same line in another phase
unfoldable pub in_phase : Line → Phase → Line
in_phase x p = record { time = x.time; phase = p; holds = x.holds; children = x.children }

-- the same line with other holds
unfoldable pub with_holds : Line → List Hold → Line
with_holds x hs = record { time = x.time; phase = x.phase; holds = hs; children = x.children }

-- the same line with other children
unfoldable pub with_children : Line → List Child → Line
with_children x cs = record { time = x.time; phase = x.phase; holds = x.holds; children = cs }

-- the same line without the holds that have ended
unfoldable pub in_force : ℕ → Line → Line
in_force time x = with_holds x (only (ends_after time) x.holds)

-- a hold of an address until an end, where there is one
abbrev pub hold_until : Address → Option End → List Hold
hold_until a None = []
hold_until a (Some e) = record { address = a; end = e } ∷ []

-- the end of the first of the holds, where there is one
abbrev pub first_end : List Hold → Option End
first_end [] = None
first_end (h ∷ hs) = Some h.end

-- the line that a call finds becomes idle, and an address is held behind the others where there is an end
unfoldable pub held_for : ℕ → Address → Option End → Line → Line
held_for time a end x =
    let found = current time x in
    with_holds (in_phase found Idle) (found.holds ++ hold_until a end)

-- a line of which only the phase and the children are known
unfoldable pub unheld : Phase → List Child → Line
unheld p cs = record { time = 0; phase = p; holds = []; children = cs }

-- where the octets l are those of a record, m are those of the record with its line changed
abbrev pub Changes : List ℕ → List ℕ → (Line → Line) → Type 0
Changes l m f = (pair : ℕ) (x : Line) → length x.holds ≤ most_holds → length x.children ≤ most_children → l ≡ record_octets pair x → m ≡ record_octets pair (f x)

-- m is the record l with its line replaced: the line that a call finds, in the phase that its own goes on to and that stands so, changed
abbrev pub Goes : List ℕ → ℕ → Standing → List ℕ → (Line → Line) → Type 0
Goes l time s m f =
    (q : Phase) → Continues (line_from l).phase q → standing q ≡ s → m ≡ record_octets (field l 0 1) (f (in_phase (current time (line_from l)) (restored (line_from l).phase q)))
