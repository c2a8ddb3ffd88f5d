-- The listing of one tenant: open lines by rising number, each with its children in the order made (document 01, 'Listing of one tenant').
use Rattle.std.specs.Prelude.{ℕ, suc, ◌*◌, List, [], ◌∷◌, ◌++◌, length, Option, None, Some}
use Prim.Native.String.{String}
use Rattle.octets.specs.Row.{joined}
use Rattle.address.specs.Address.{number_of, version_of, width_of}
use Rattle.address.specs.declared.Address.{Address}
use Rattle.children.specs.declared.Child.{Child}
use Rattle.entry.specs.Pieces.{newline_code, tab_code}
use Rattle.phase.specs.Chosen.{chosen}
use Rattle.phase.specs.Stage.{Stage, stage_of}
use Rattle.record.specs.Line.{Line}
use Rattle.text.specs.Text.{text, decimal, digit_text}

-- a tab between fields, a newline after a record
unfoldable pub tab : List ℕ
tab = tab_code ∷ []

unfoldable pub newline : List ℕ
newline = newline_code ∷ []

-- the phase word as in the table in 'Life of a line'
unfoldable pub word : Stage → String
word Stage.idle = "idle"
word Stage.country = "country"
word Stage.name = "name"
word Stage.chosen = "chosen"
word Stage.init = "init"
word Stage.auth = "auth"
word Stage.eap = "eap"
word Stage.sure = "sure"
word Stage.live = "live"

-- the chosen address in hex, 8 or 32 lower-case digits, or a hyphen
unfoldable pub address_text : Option Address → List ℕ
address_text None = text "-"
address_text (Some a) = digit_text 16 (2 * width_of (version_of a)) (number_of a)

-- a child record has its line, the SPI as 8 hex digits, the session in decimal
unfoldable pub child_text : ℕ → Child → List ℕ
child_text n c = text "child" ++ tab ++ decimal n ++ tab ++ digit_text 16 8 c.spi ++ tab ++ decimal c.session ++ newline

-- a line has its number, the phase word, the chosen address, the count of children
unfoldable pub line_text : ℕ → Line → List ℕ
line_text n x =
    text "line" ++ tab ++ decimal n ++ tab ++ text (word (stage_of x.phase)) ++ tab ++ address_text (chosen x.phase) ++ tab
    ++ decimal (length x.children) ++ newline ++ joined (child_text n) x.children

-- the lines from one number on, those that are open
unfoldable pub list_from : ℕ → List (Option Line) → List ℕ
list_from n [] = []
list_from n (None ∷ xs) = list_from (suc n) xs
list_from n (Some x ∷ xs) = line_text n x ++ list_from (suc n) xs
