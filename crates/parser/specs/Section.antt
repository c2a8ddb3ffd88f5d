-- What the functions of the text's reader answer, in the terms of `Lines` and `Settings` of `config`.
use Rattle.std.specs.Prelude.{ℕ, ◌+◌, ◌≤◌, true, false, List, map, ◌≡◌, length, take, Option, None, Some}
use Rattle.entry.specs.Entry.{before_name}
use Rattle.entry.specs.declared.field.Preferred.{Preferred}
use Rattle.config.specs.Lines.{entries_from}
use Rattle.config.specs.Settings.{accepted, after_node, as_listed, first_node, plmn_in, rest, section, NodeWithin}
use Rattle.config.specs.declared.Kind.{Kind}
use Rattle.config.specs.declared.Node.{Node}
use Rattle.fields.specs.declared.field.Field.{Field}
use Rattle.parser.specs.declared.list.Section.{Section}

-- what the code's answer says of `node` at a place, where a text may have none
pub record NodeRead (text : List ℕ) (at : ℕ) (r : Field (Option Node)) : Type 0 where
  pub node_is : first_node (at + before_name) (entries_from text at) ≡ r.value
  pub rest_is : after_node (at + before_name) (entries_from text at) ≡ entries_from text r.next
  pub next_within : r.next ≤ length text
  pub name_within : NodeWithin text r.value

-- the entries of one kind from a place on lie in a list, and what follows them begins at another place
pub record Collected (kind : Kind) (text : List ℕ) (at : ℕ) (list : List Preferred) (r : Section) : Type 0 where
  pub accepts : accepted (map plmn_in (section (as_listed kind) (entries_from text at))) ≡ true
  pub list_is : section (as_listed kind) (entries_from text at) ≡ take r.count list
  pub rest_is : rest (as_listed kind) (entries_from text at) ≡ entries_from text r.next
  pub count_within : r.count ≤ length list
  pub next_within : r.next ≤ length text

-- what the code's answer and the list that it left say of the entries of one kind from a place on
abbrev pub SectionIs : Kind → List ℕ → ℕ → List Preferred → Option Section → Type 0
SectionIs kind text at list None = accepted (map plmn_in (section (as_listed kind) (entries_from text at))) ≡ false
SectionIs kind text at list (Some r) = Collected kind text at list r
