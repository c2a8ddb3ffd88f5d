-- The configuration text as a whole: `home` once, `node` at most once, then `plmn` and then `bar` entries.
use Rattle.std.specs.Prelude.{ℕ, ◌+◌, ◌≤◌, Bool, true, false, cond, ◌&&◌, List, [], ◌∷◌, map, leb, length, take, Option, None, Some}
use Rattle.octets.specs.Search.{distinct}
use Rattle.network.specs.Plmn.{same_plmn}
use Rattle.network.specs.declared.Plmn.{Plmn}
use Rattle.entry.specs.Entry.{before_name, Entry, Home, Name, Preference, Bar, Bad}
use Rattle.entry.specs.declared.field.Preferred.{Preferred}
use Rattle.config.specs.Lines.{entries_from, line_end}
use Rattle.config.specs.declared.Config.{Config}
use Rattle.config.specs.declared.Node.{Node}
use Rattle.config.specs.declared.Configuration.{Configuration}
use Rattle.config.specs.declared.Kind.{Kind}

-- the PLMN of a `plmn` entry
unfoldable pub plmn_in : Preferred → Plmn
plmn_in x = x.plmn

-- a configuration with its entries as lists
pub record Settings : Type 0 where
  pub home : Plmn
  pub node : Option Node
  pub plmns : List Preferred
  pub bars : List Plmn

-- the configuration that the code's struct holds, with the two lists that lie beside it
unfoldable pub settings_in : List Preferred → List Preferred → Config → Settings
settings_in ps bs c = record { home = c.home; node = c.node; plmns = take c.plmn_count ps; bars = map plmn_in (take c.bar_count bs) }

-- the configuration that the code's struct holds with its lists
unfoldable pub settings_of : Configuration → Settings
settings_of c = record { home = c.home; node = c.node; plmns = c.plmns.now; bars = map plmn_in c.bars.now }

-- the most entries of one kind, `plmn` or `bar`, that a text has
abbrev pub most_listed : ℕ
most_listed = 16

-- at most so many entries of a kind, and no PLMN twice
unfoldable pub accepted : List Plmn → Bool
accepted ps = leb (length ps) most_listed && distinct same_plmn ps

-- the PLMN of `home`
unfoldable pub as_home : Entry → Option Plmn
as_home (Home p) = Some p
as_home (Name n) = None
as_home (Entry.Node a) = None
as_home (Preference p) = None
as_home (Bar p) = None
as_home Bad = None

-- what `node` says: a name by its place in the text, which is handed in, and its length; or an address
unfoldable pub as_node : ℕ → Entry → Option Node
as_node at (Home p) = None
as_node at (Name n) = Some (Node.Name at n)
as_node at (Entry.Node a) = Some (Node.Address a)
as_node at (Preference p) = None
as_node at (Bar p) = None
as_node at Bad = None

-- what an entry of the kind `plmn` or `bar` says; both are kept alike, a barred PLMN with priority 0
unfoldable pub as_listed : Kind → Entry → Option Preferred
as_listed kind (Home p) = None
as_listed kind (Name n) = None
as_listed kind (Entry.Node a) = None
as_listed Kind.Plmn (Preference p) = Some p
as_listed Kind.Bar (Preference p) = None
as_listed Kind.Plmn (Bar p) = None
as_listed Kind.Bar (Bar p) = Some (record { plmn = p; priority = 0 })
as_listed kind Bad = None

-- entries that follow one another, each of which says something of a sort
module _ {A : Type 0} where
  -- an entry that says nothing of the sort ends them
  unfoldable pub taken : Option A → List A → List A
  taken None xs = []
  taken (Some a) xs = a ∷ xs

  -- what the entries at the start of a list say
  unfoldable pub section : (Entry → Option A) → List Entry → List A
  section say [] = []
  section say (e ∷ es) = taken (say e) (section say es)

  -- an entry that says nothing of the sort is left
  unfoldable pub left : Option A → List Entry → List Entry → List Entry
  left None all after = all
  left (Some a) all after = after

  -- what follows those at the start of a list
  unfoldable pub rest : (Entry → Option A) → List Entry → List Entry
  rest say [] = []
  rest say (e ∷ es) = left (say e) (e ∷ es) (rest say es)

-- the text ends where no entry follows
unfoldable pub is_end : List Entry → Bool
is_end [] = true
is_end (e ∷ es) = false

-- `node` at the start of a list of entries; a text may have none
unfoldable pub first_node : ℕ → List Entry → Option Node
first_node at [] = None
first_node at (e ∷ es) = as_node at e

-- what follows it
unfoldable pub after_node : ℕ → List Entry → List Entry
after_node at [] = []
after_node at (e ∷ es) = left (as_node at e) (e ∷ es) es

-- `plmn` entries, then `bar` entries, each accepted, and then the end
unfoldable pub settle : Plmn → Option Node → List Entry → Option Settings
settle h n es =
    let ps = section (as_listed Kind.Plmn) es in
    let behind = rest (as_listed Kind.Plmn) es in
    let bs = section (as_listed Kind.Bar) behind in
    cond (accepted (map plmn_in ps) && accepted (map plmn_in bs) && is_end (rest (as_listed Kind.Bar) behind))
    (Some (record { home = h; node = n; plmns = ps; bars = map plmn_in bs })) None

-- `home` comes first
unfoldable pub with_home : Option Plmn → ℕ → List Entry → Option Settings
with_home None at es = None
with_home (Some h) at es = settle h (first_node at es) (after_node at es)

-- a text without entries has no `home`
unfoldable pub from_home : ℕ → List Entry → Option Settings
from_home at [] = None
from_home at (e ∷ es) = with_home (as_home e) at es

-- a node name stands on the second line, behind the newline of the first and the octets before a name
unfoldable pub name_place : List ℕ → ℕ
name_place text = line_end text 0 + 1 + before_name

-- what a configuration text says, where it is well formed
unfoldable pub config_of : List ℕ → Option Settings
config_of text = from_home (name_place text) (entries_from text 0)

-- a node name lies in the text
abbrev pub NodeWithin : List ℕ → Option Node → Type 0
NodeWithin text None = Unit {0}
NodeWithin text (Some (Node.Name at n)) = at + n ≤ length text
NodeWithin text (Some (Node.Address a)) = Unit {0}

-- two lists that have room for all entries of a text
abbrev pub Room : List Preferred → List Preferred → Type 0
Room ps bs = (most_listed ≤ length ps) × (most_listed ≤ length bs)

-- a configuration whose entries lie in the lists beside it
pub record Counted (ps bs : List Preferred) (c : Config) : Type 0 where
  pub plmns_within : c.plmn_count ≤ length ps
  pub bars_within : c.bar_count ≤ length bs

-- what is kept of a text lies in the lists and in the text
pub record Within (text : List ℕ) (ps bs : List Preferred) (c : Config) : Type 0 where
  pub counted : Counted ps bs c
  pub name_within : NodeWithin text c.node
