-- What the readers of fields at a place of a text answer, in the terms of `Field` of `entry`.
use Rattle.std.specs.Prelude.{ℕ, ◌≤◌, ◌<◌, true, false, List, ◌∷◌, ◌++◌, ◌≡◌, length, drop, get_or, Option, None, Some, ◌⊎◌}
use Rattle.text.specs.Text.{read_digits}
use Rattle.network.specs.declared.Plmn.{Plmn}
use Rattle.entry.specs.Field.{is_name_character, plmn_of, priority_of}
use Rattle.entry.specs.Pieces.{newline_code, tab_code}
use Rattle.fields.specs.declared.field.Field.{Field}

-- octets at a place of a text, which another one ends, and the text goes on behind that
pub record IsField (text : List ℕ) (at : ℕ) (octets : List ℕ) (end next : ℕ) : Type 0 where
  pub is : drop at text ≡ octets ++ end ∷ drop next text
  pub within : next ≤ length text
  pub after : at < next

-- what the code's answer says of a number of so many digits at a place and the octet that ends it
abbrev pub NumberIs : List ℕ → ℕ → ℕ → ℕ → ℕ → Option (Field ℕ) → Type 0
NumberIs text at width base end None = (f m : List ℕ) (x : ℕ) → drop at text ≡ f ++ end ∷ m → length f ≡ width → read_digits base f ≡ Some x → ⊥
NumberIs text at width base end (Some r) = (f : List ℕ) × IsField text at f end r.next × (length f ≡ width) × (read_digits base f ≡ Some r.value)

-- what it says of an MNC, which has two digits or three
abbrev pub MncIs : List ℕ → ℕ → ℕ → Option (Field ℕ) → Type 0
MncIs text at end None = (f m : List ℕ) (x : ℕ) → drop at text ≡ f ++ end ∷ m → (length f ≡ 2) ⊎ (length f ≡ 3) → read_digits 10 f ≡ Some x → ⊥
MncIs text at end (Some r) = (f : List ℕ) × IsField text at f end r.next × ((length f ≡ 2) ⊎ (length f ≡ 3)) × (read_digits 10 f ≡ Some r.value)

-- what it says of two fields at a place, a tab between them and an octet behind them that is no digit, and the PLMN that they say
abbrev pub PlmnIs : List ℕ → ℕ → ℕ → Option (Field Plmn) → Type 0
PlmnIs text at end None = (a b m : List ℕ) (p : Plmn) → drop at text ≡ a ++ tab_code ∷ (b ++ end ∷ m) → plmn_of a b ≡ Some p → ⊥
PlmnIs text at end (Some r) =
    (a : List ℕ) × (b : List ℕ) × (drop at text ≡ a ++ tab_code ∷ (b ++ end ∷ drop r.next text)) × (r.next ≤ length text) × (plmn_of a b ≡ Some r.value)

-- what it says of a field at a place, a newline behind it, and the priority that it says
abbrev pub PriorityIs : List ℕ → ℕ → Option (Field ℕ) → Type 0
PriorityIs text at None = (c m : List ℕ) (x : ℕ) → drop at text ≡ c ++ newline_code ∷ m → priority_of c ≡ Some x → ⊥
PriorityIs text at (Some r) = (c : List ℕ) × (drop at text ≡ c ++ newline_code ∷ drop r.next text) × (r.next ≤ length text) × (priority_of c ≡ Some r.value)

-- the octets from a place up to another may stand in a node name, and the one there may not, or the text ends there
pub record NameEndIs (text : List ℕ) (at r : ℕ) : Type 0 where
  pub after : at ≤ r
  pub within : r ≤ length text
  pub passed : (k : ℕ) → at ≤ k → k < r → is_name_character (get_or text k 0) ≡ true
  pub ended : r < length text → is_name_character (get_or text r 0) ≡ false
