-- The entries of a configuration text, one a line.
use Rattle.std.specs.Prelude.{ℕ, ◌+◌, ◌-◌, List, [], ◌∷◌, length, drop}
use Rattle.octets.specs.Part.{octet_is}
use Rattle.octets.specs.Search.{least}
use Rattle.entry.specs.Entry.{line_entry, Entry, Bad}
use Rattle.entry.specs.Pieces.{newline_code, pieces}

-- what stands behind the last newline: nothing, or a line that no newline ends, which is no entry
unfoldable pub last_entry : List ℕ → List Entry
last_entry [] = []
last_entry (c ∷ l) = Bad ∷ []

-- the entries of lines of which all but the last are ended by a newline; a text has at least one such line, empty or not
unfoldable pub entries : List (List ℕ) → List Entry
entries [] = []
entries (l ∷ []) = last_entry l
entries (l ∷ m ∷ ls) = line_entry l ∷ entries (m ∷ ls)

-- the entries of a text from a place on
unfoldable pub entries_from : List ℕ → ℕ → List Entry
entries_from text at = entries (pieces newline_code (drop at text))

-- where the first newline from a place on stands, or the length
unfoldable pub line_end : List ℕ → ℕ → ℕ
line_end text at = at + least (length text - at) (octet_is text at newline_code)
