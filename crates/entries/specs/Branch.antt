-- What the readers of entries answer, in the terms of `Lines` and `Settings` of `config`.
use Rattle.std.specs.Prelude.{ℕ, ◌+◌, ◌*◌, ◌≤◌, ◌<◌, Bool, true, false, List, [], ◌∷◌, ◌++◌, ◌≡◌, length, drop, Option, None, Some}
use Rattle.text.specs.Text.{read_digits}
use Rattle.network.specs.declared.Plmn.{Plmn}
use Rattle.address.specs.Address.{address_of, width_of}
use Rattle.entry.specs.Entry.{before_name, Home}
use Rattle.entry.specs.Field.{is_name}
use Rattle.entry.specs.Pieces.{newline_code}
use Rattle.entry.specs.declared.field.Preferred.{Preferred}
use Rattle.fields.specs.Read.{IsField}
use Rattle.fields.specs.declared.field.Field.{Field}
use Rattle.config.specs.Lines.{entries_from, line_end}
use Rattle.config.specs.Settings.{after_node, as_listed, config_of, first_node, rest, section, NodeWithin}
use Rattle.config.specs.declared.Kind.{Kind}
use Rattle.config.specs.declared.Node.{Node}

-- what the code's answer says of octets at a place of a text
abbrev pub BeginsIs : List ℕ → ℕ → List ℕ → Bool → Type 0
BeginsIs text at w true = (drop at text ≡ w ++ drop (at + length w) text) × (at + length w ≤ length text)
BeginsIs text at w false = (m : List ℕ) → drop at text ≡ w ++ m → ⊥

-- what it says of the entry of a kind at a place
abbrev pub ListedIs : Kind → List ℕ → ℕ → Option (Field Preferred) → Type 0
ListedIs kind text at None = (section (as_listed kind) (entries_from text at) ≡ []) × (rest (as_listed kind) (entries_from text at) ≡ entries_from text at)
ListedIs kind text at (Some r) =
    (section (as_listed kind) (entries_from text at) ≡ r.value ∷ section (as_listed kind) (entries_from text r.next))
    × (rest (as_listed kind) (entries_from text at) ≡ rest (as_listed kind) (entries_from text r.next)) × (at < r.next) × (r.next ≤ length text)

-- what it says of `home` at the start of a text; where it does not stand there, the text is not well formed
abbrev pub HomeIs : List ℕ → Option (Field Plmn) → Type 0
HomeIs text None = None ≡ config_of text
HomeIs text (Some r) = (entries_from text 0 ≡ Home r.value ∷ entries_from text r.next) × (r.next ≡ line_end text 0 + 1) × (r.next ≤ length text)

-- what it says of a node name at a place and the newline that ends it
abbrev pub NameIs : List ℕ → ℕ → Option (Field Node) → Type 0
NameIs text start None = (f m : List ℕ) → drop start text ≡ f ++ newline_code ∷ m → is_name f ≡ true → ⊥
NameIs text start (Some r) = (f : List ℕ) × IsField text start f newline_code r.next × (is_name f ≡ true) × (r.value ≡ Node.Name start (length f))

-- what it says of an address of a version at a place and the newline that ends it
abbrev pub AddressIs : ℕ → List ℕ → ℕ → Option (Field Node) → Type 0
AddressIs version text start None =
    (f m : List ℕ) (x : ℕ) → drop start text ≡ f ++ newline_code ∷ m → length f ≡ 2 * width_of version → read_digits 16 f ≡ Some x → ⊥
AddressIs version text start (Some r) =
    (f : List ℕ) × (x : ℕ) × IsField text start f newline_code r.next × (length f ≡ 2 * width_of version) × (read_digits 16 f ≡ Some x)
    × (r.value ≡ Node.Address (address_of version x))

-- what it says of `node` at a place, where a text may have none
abbrev pub NodedIs : List ℕ → ℕ → Option (Field Node) → Type 0
NodedIs text at None =
    (first_node (at + before_name) (entries_from text at) ≡ None) × (after_node (at + before_name) (entries_from text at) ≡ entries_from text at)
NodedIs text at (Some r) =
    (first_node (at + before_name) (entries_from text at) ≡ Some r.value) × (after_node (at + before_name) (entries_from text at) ≡ entries_from text r.next)
    × (r.next ≤ length text) × NodeWithin text (Some r.value)
