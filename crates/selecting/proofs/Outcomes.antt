-- What start and the country answer come to.
use Rattle.std.specs.Prelude.{Option, Some}
use Prim.Native.Nat.{ℕ}
use mathlib.Core.List.{List}
use mathlib.Core.Path.{◌≡◌, sym, ap, ap₂, ◌∙◌}
use lib.Dec.{eqb}
use Rattle.config.specs.Settings.{Settings, config_of}
use Rattle.lists.specs.Lists.{networks_in}
use Rattle.phase.specs.declared.Phase.{Phase}
use Rattle.phase.specs.declared.Phase.TheVariants.{Country}
use Rattle.place.specs.declared.Facts.{Facts}
use Rattle.record.specs.Line.{Line}
use Rattle.rules.specs.Call.{country, facts_of, start}
use Rattle.rules.specs.Life.{country_answered, decided, outcome, started}
use Rattle.rules.specs.Phases.{facts_in}
use Rattle.rules.specs.declared.StartNumbers.{StartNumbers}
use Rattle.selection.specs.Selection as Selection
use Rattle.selection.specs.declared.Choice.{Choice}

-- start, where the text was read
pub of_start : (g : StartNumbers) (text : List ℕ) (room : ℕ) (x : Line) (s : Settings) (f : Facts) (c : Choice) → config_of text ≡ Some s → f ≡ facts_of g
    → c ≡ Selection.start s f → outcome (start g text room) x ≡ decided x f text c
unfolding outcome started
of_start g text room x s f c says facts choice = rw (says, ← facts, ← choice)

-- the country answer to a line that waits for it, where the text was read
pub of_country : (n : ℕ) (networks text : List ℕ) (room : ℕ) (x : Line) (s : Settings) (f : Facts) (c : Choice) → x.phase ≡ Country f → config_of text ≡ Some s
    → c ≡ Selection.country s f (Selection.country_reply (eqb n 1) (networks_in networks)) → outcome (country n networks text room) x ≡ decided x f text c
unfolding outcome country_answered facts_in
of_country n networks text room x s f c waits says choice =
    let answer = Selection.country_reply (eqb n 1) (networks_in networks) in
    ap₂ (λ (p : Phase) (o : Option Settings). country_answered x (facts_in p) answer text o) waits says ∙ ap (decided x f text) (sym choice)
