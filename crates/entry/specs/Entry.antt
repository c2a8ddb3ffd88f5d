-- One line of the configuration text, by its fields.
use Rattle.std.specs.Prelude.{ℕ, ◌+◌, ◌*◌, cond, List, [], ◌∷◌, eqb, length, Option, None, Some}
use Rattle.octets.specs.Part.{same}
use Rattle.text.specs.Text.{text, read_digits}
use Rattle.network.specs.declared.Plmn.{Plmn}
use Rattle.address.specs.Address.{address_of, width_of}
use Rattle.address.specs.declared.Address.{Address}
use Rattle.entry.specs.Field.{plmn_of, priority_of, is_name}
use Rattle.entry.specs.Pieces.{pieces, tab_code}
use Rattle.entry.specs.declared.field.Preferred.{Preferred}

-- what a line says
pub data Entry : Type 0 where
  Home : Plmn → Entry
  -- the length of a node name
  Name : ℕ → Entry
  Node : Address → Entry
  Preference : Preferred → Entry
  Bar : Plmn → Entry
  -- no entry
  Bad : Entry

-- `home` and `bar` go on with a PLMN
unfoldable pub home_entry : Option Plmn → Entry
home_entry None = Bad
home_entry (Some p) = Home p

unfoldable pub bar_entry : Option Plmn → Entry
bar_entry None = Bad
bar_entry (Some p) = Bar p

-- `plmn` goes on with a PLMN and its priority
unfoldable pub plmn_entry : Option Plmn → Option ℕ → Entry
plmn_entry None x = Bad
plmn_entry (Some p) None = Bad
plmn_entry (Some p) (Some x) = Preference (record { plmn = p; priority = x })

-- the octets of a line before a node name: `node`, a tab, `name` and a tab
unfoldable pub before_name : ℕ
unfolding text
before_name = length (text "node") + 1 + length (text "name") + 1

-- a node name is kept as its place in the text, so that only its length is told here
unfoldable pub name_entry : List ℕ → Entry
name_entry l = cond (is_name l) (Name (length l)) Bad

-- a node address is the number that its digits say
unfoldable pub address_entry : ℕ → Option ℕ → Entry
address_entry version None = Bad
address_entry version (Some x) = Node (address_of version x)

-- an address has two hexadecimal digits an octet: 8 for version 4, 32 for version 6
unfoldable pub version_entry : ℕ → List ℕ → Entry
version_entry version l = cond (eqb (length l) (2 * width_of version)) (address_entry version (read_digits 16 l)) Bad

-- `node` goes on with `name` and a name, or with a version and an address
unfoldable pub node_entry : List ℕ → List ℕ → Entry
node_entry kind l =
    cond (same kind (text "name")) (name_entry l) (cond (same kind (text "v4")) (version_entry 4 l) (cond (same kind (text "v6")) (version_entry 6 l) Bad))

-- an entry of three fields
unfoldable pub three : List ℕ → List ℕ → List ℕ → Entry
three word a b =
    cond (same word (text "home")) (home_entry (plmn_of a b))
    (cond (same word (text "bar")) (bar_entry (plmn_of a b)) (cond (same word (text "node")) (node_entry a b) Bad))

-- an entry of four fields
unfoldable pub four : List ℕ → List ℕ → List ℕ → List ℕ → Entry
four word a b c = cond (same word (text "plmn")) (plmn_entry (plmn_of a b) (priority_of c)) Bad

-- an entry by its fields, three or four; a line of one field, empty or not, is no entry, and no line has none
unfoldable pub entry_of : List (List ℕ) → Entry
entry_of [] = Bad
entry_of (a ∷ []) = Bad
entry_of (a ∷ b ∷ []) = Bad
entry_of (a ∷ b ∷ c ∷ []) = three a b c
entry_of (a ∷ b ∷ c ∷ d ∷ []) = four a b c d
entry_of (a ∷ b ∷ c ∷ d ∷ e ∷ fs) = Bad

-- the fields of a line are parted by one tab
unfoldable pub line_entry : List ℕ → Entry
line_entry l = entry_of (pieces tab_code l)
