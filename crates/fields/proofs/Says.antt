-- What an entry says of the fields of its line.
use Rattle.std.specs.Prelude.{Option, None, Some}
use Prim.Native.Nat.{ℕ, ◌*◌}
use mathlib.Core.Bool.{Bool, true, false, cond}
use mathlib.Core.List.{List, [], ◌∷◌, ◌++◌}
use mathlib.Core.Logic.{◌⊎◌, inl, inr}
use mathlib.Core.Path.{◌≡◌, refl, ap, ◌∙◌}
use lib.Dec.{eqb}
use lib.ListN.{length}
use borrow.Author.Tests.{eqb-true}
use Rattle.octets.specs.Part.{same}
use Rattle.octets.proofs.Parts.{same_equal}
use Rattle.text.specs.Text.{text, read_digits}
use Rattle.network.specs.declared.Plmn.{Plmn}
use Rattle.address.specs.Address.{width_of}
use Rattle.entry.specs.Entry.{address_entry, bar_entry, entry_of, four, home_entry, line_entry, name_entry, node_entry, plmn_entry, three, version_entry, Entry, Home, Name, Node, Preference, Bar, Bad}
use Rattle.entry.specs.Field.{is_name, plmn_of, priority_of}
use Rattle.entry.specs.Pieces.{pieces}
use Rattle.fields.proofs.Joins.{Free, begins, piece_alone, piece_ends}

-- a PLMN follows a word
abbrev pub Network : List ℕ → List (List ℕ) → Plmn → Type 0
Network w ps p = (a : List ℕ) × (b : List ℕ) × (ps ≡ w ∷ a ∷ b ∷ []) × (plmn_of a b ≡ Some p)

-- an address follows a word
abbrev pub Digits : ℕ → List ℕ → List (List ℕ) → Type 0
Digits version k ps = (f : List ℕ) × (x : ℕ) × (ps ≡ text "node" ∷ k ∷ f ∷ []) × (length f ≡ 2 * width_of version) × (read_digits 16 f ≡ Some x)

-- the fields of a line that says an entry
abbrev pub Says : List (List ℕ) → Entry → Type 0
Says ps (Home p) = Network (text "home") ps p
Says ps (Name n) = (f : List ℕ) × (ps ≡ text "node" ∷ text "name" ∷ f ∷ []) × (is_name f ≡ true)
Says ps (Node a) = Digits 4 (text "v4") ps ⊎ Digits 6 (text "v6") ps
Says ps (Preference x) =
    (a : List ℕ) × (b : List ℕ) × (c : List ℕ) × (ps ≡ text "plmn" ∷ a ∷ b ∷ c ∷ []) × (plmn_of a b ≡ Some x.plmn) × (priority_of c ≡ Some x.priority)
Says ps (Bar p) = Network (text "bar") ps p
Says ps Bad = Unit {0}

module _ (w a b : List ℕ) where
  abbrev fields : List (List ℕ)
  fields = w ∷ a ∷ b ∷ []

  first : (m : List ℕ) → same w m ≡ true → fields ≡ m ∷ a ∷ b ∷ []
  first m e = ap (λ (l : List ℕ). l ∷ a ∷ b ∷ []) (same_equal w m e)

  -- `home` and `bar` say a PLMN where the fields behind the word do
  network_said : (m : List ℕ) (entry : Option Plmn → Entry) → Says fields (entry None) → ((p : Plmn) → Network m fields p → Says fields (entry (Some p)))
      → same w m ≡ true → (o : Option Plmn) → plmn_of a b ≡ o → Says fields (entry o)
  network_said m entry unsaid says e None h = unsaid
  network_said m entry unsaid says e (Some p) h = says p (a, b, first m e, h)

  module _ (node : same w (text "node") ≡ true) where
    both : (m : List ℕ) → same a m ≡ true → fields ≡ text "node" ∷ m ∷ b ∷ []
    both m e = first (text "node") node ∙ ap (λ (l : List ℕ). text "node" ∷ l ∷ b ∷ []) (same_equal a m e)

    name_said : same a (text "name") ≡ true → (t : Bool) → is_name b ≡ t → Says fields (cond t (Name (length b)) Bad)
    name_said e true h = (b, both (text "name") e, h)
    name_said e false h = tt

    -- an address of a version
    address_said : (version : ℕ) (m : List ℕ) → (Digits version m fields → Digits 4 (text "v4") fields ⊎ Digits 6 (text "v6") fields) → same a m ≡ true
        → (t : Bool) → eqb (length b) (2 * width_of version) ≡ t → (o : Option ℕ) → read_digits 16 b ≡ o → Says fields (cond t (address_entry version o) Bad)
    unfolding address_entry
    address_said version m says e true h None k = tt
    address_said version m says e true h (Some x) k = says (b, x, both m e, eqb-true (length b) (2 * width_of version) h, k)
    address_said version m says e false h o k = tt

    node_said : Says fields (node_entry a b)
    unfolding node_entry name_entry version_entry
    node_said = go (same a (text "name")) refl (same a (text "v4")) refl (same a (text "v6")) refl
      where
        go : (t : Bool) → same a (text "name") ≡ t → (u : Bool) → same a (text "v4") ≡ u → (v : Bool) → same a (text "v6") ≡ v
            → Says fields (cond t (name_entry b) (cond u (version_entry 4 b) (cond v (version_entry 6 b) Bad)))
        go true e u f v g = name_said e (is_name b) refl
        go false e true f v g = address_said 4 (text "v4") inl f (eqb (length b) (2 * width_of 4)) refl (read_digits 16 b) refl
        go false e false f true g = address_said 6 (text "v6") inr g (eqb (length b) (2 * width_of 6)) refl (read_digits 16 b) refl
        go false e false f false g = tt

  three_said : Says fields (three w a b)
  unfolding three home_entry bar_entry
  three_said = go (same w (text "home")) refl (same w (text "bar")) refl (same w (text "node")) refl
    where
      go : (t : Bool) → same w (text "home") ≡ t → (u : Bool) → same w (text "bar") ≡ u → (v : Bool) → same w (text "node") ≡ v
          → Says fields (cond t (home_entry (plmn_of a b)) (cond u (bar_entry (plmn_of a b)) (cond v (node_entry a b) Bad)))
      go true e u f v g = network_said (text "home") home_entry tt (λ p s. s) e (plmn_of a b) refl
      go false e true f v g = network_said (text "bar") bar_entry tt (λ p s. s) f (plmn_of a b) refl
      go false e false f true g = node_said g
      go false e false f false g = tt

four_said : (w a b c : List ℕ) → Says (w ∷ a ∷ b ∷ c ∷ []) (four w a b c)
unfolding four plmn_entry
four_said w a b c = go (same w (text "plmn")) refl (plmn_of a b) refl (priority_of c) refl
  where
    go : (t : Bool) → same w (text "plmn") ≡ t → (o : Option Plmn) → plmn_of a b ≡ o → (x : Option ℕ) → priority_of c ≡ x
        → Says (w ∷ a ∷ b ∷ c ∷ []) (cond t (plmn_entry o x) Bad)
    go true e None f x g = tt
    go true e (Some p) f None g = tt
    go true e (Some p) f (Some x) g = (a, b, c, ap (λ (l : List ℕ). l ∷ a ∷ b ∷ c ∷ []) (same_equal w (text "plmn") e), f, g)
    go false e o f x g = tt

-- the fields of a line are those that its entry needs
pub said : (ps : List (List ℕ)) → Says ps (entry_of ps)
unfolding entry_of
said [] = tt
said (a ∷ []) = tt
said (a ∷ b ∷ []) = tt
said (a ∷ b ∷ c ∷ []) = three_said a b c
said (a ∷ b ∷ c ∷ d ∷ []) = four_said a b c d
said (a ∷ b ∷ c ∷ d ∷ e ∷ fs) = tt

-- a line of three or four fields is those fields joined by tabs
pub three_joined : (l w a b : List ℕ) → pieces 9 l ≡ w ∷ a ∷ b ∷ [] → l ≡ w ++ 9 ∷ (a ++ 9 ∷ b)
three_joined l w a b e =
    let f = begins 9 l w (a ∷ b ∷ []) e in
    let g = begins 9 f.0 a (b ∷ []) f.2 in
    let h = begins 9 g.0 b [] g.2 in
    f.1 ∙ ap (λ (m : List ℕ). w ++ 9 ∷ m) (g.1 ∙ ap (λ (m : List ℕ). a ++ 9 ∷ m) h)

pub four_joined : (l w a b c : List ℕ) → pieces 9 l ≡ w ∷ a ∷ b ∷ c ∷ [] → l ≡ w ++ 9 ∷ (a ++ 9 ∷ (b ++ 9 ∷ c))
four_joined l w a b c e =
    let f = begins 9 l w (a ∷ b ∷ c ∷ []) e in
    f.1 ∙ ap (λ (m : List ℕ). w ++ 9 ∷ m) (three_joined f.0 a b c f.2)

-- fields without tabs are the fields of their line
pub three_parted : (w a b : List ℕ) → Free 9 w → Free 9 a → Free 9 b → line_entry (w ++ 9 ∷ (a ++ 9 ∷ b)) ≡ three w a b
unfolding line_entry entry_of
three_parted w a b e f g = rw (piece_ends 9 w (a ++ 9 ∷ b) e, piece_ends 9 a b f, piece_alone 9 b g)

pub four_parted : (w a b c : List ℕ) → Free 9 w → Free 9 a → Free 9 b → Free 9 c → line_entry (w ++ 9 ∷ (a ++ 9 ∷ (b ++ 9 ∷ c))) ≡ four w a b c
unfolding line_entry entry_of
four_parted w a b c e f g h = rw (piece_ends 9 w (a ++ 9 ∷ (b ++ 9 ∷ c)) e, piece_ends 9 a (b ++ 9 ∷ c) f, piece_ends 9 b c g, piece_alone 9 c h)
