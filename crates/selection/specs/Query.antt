-- The name to ask is a part of the configuration text or of the name buffer, whichever holds it.
use Rattle.std.specs.Prelude.{ℕ, ◌+◌, ◌≤◌, List, [], ◌≡◌, length}
use Rattle.octets.specs.Part.{part}
use Rattle.network.specs.Name.{operator_name, visited_name, Named}
use Rattle.network.specs.declared.Plmn.{Plmn}
use Rattle.selection.specs.declared.Choice.{Choice}
use Rattle.selection.specs.declared.Choice.TheVariants.{Stop, Country, Text, Network, Address}

-- the name that is built, none where it lies in the text or nothing is asked
unfoldable pub built : Choice → List ℕ
built (Stop at) = []
built (Country mcc) = visited_name mcc
built (Text at n) = []
built (Network p) = operator_name p
built (Address a) = []

-- the name that is asked, none where nothing is
unfoldable pub asked : List ℕ → Choice → List ℕ
asked text (Stop at) = []
asked text (Country mcc) = visited_name mcc
asked text (Text at n) = part text at n
asked text (Network p) = operator_name p
asked text (Address a) = []

-- a name in the text lies within it
abbrev pub TextWithin : List ℕ → Choice → Type 0
TextWithin text (Stop at) = Unit {0}
TextWithin text (Country mcc) = Unit {0}
TextWithin text (Text at n) = at + n ≤ length text
TextWithin text (Network p) = Unit {0}
TextWithin text (Address a) = Unit {0}

-- the asked name lies in its slice: a name of the text within it, a built one as the n first octets of the name buffer
pub record Lies (text name : List ℕ) (n : ℕ) (choice : Choice) : Type 0 where
  pub in_text : TextWithin text choice
  pub in_name : Named (built choice) (length name) name n

-- a name that is built is the one that is asked
pub record BuiltAsked : Type 0 where
  pub country : (text : List ℕ) (mcc : ℕ) → built (Country mcc) ≡ asked text (Country mcc)
  pub network : (text : List ℕ) (p : Plmn) → built (Network p) ≡ asked text (Network p)
