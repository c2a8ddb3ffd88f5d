-- `node` at a place.
use Rattle.std.specs.Prelude.{Option, None, Some}
use mathlib.Core.Logic.{inl, inr}
use Rattle.std.proofs.Common.{◌≡◌, ℕ, ◌+◌, ◌*◌, ◌≤◌, true, false, Bool, cond, List, [], ◌∷◌, ◌++◌, length, get_or, drop, refl, sym, ap, ◌∙◌, subst, arith}
use Rattle.octets.specs.Part.{same}
use Rattle.text.specs.Text.{read_digits, text}
use Rattle.address.specs.Address.{address_of, width_of}
use Rattle.entry.specs.Entry.{before_name, name_entry, node_entry, three, version_entry, Entry, Home, Name, Preference, Bar, Bad}
use Rattle.entry.specs.Field.{is_name}
use Rattle.fields.specs.declared.field.Field.{Field}
use Rattle.fields.proofs.Characters.{hex_free, name_free}
use Rattle.fields.proofs.Readings.{by_digits}
use Rattle.entries.specs.Branch.{AddressIs, BeginsIs, NameIs, NodedIs}
use Rattle.config.specs.Lines.{entries_from}
use Rattle.config.specs.Settings.{NodeWithin, after_node, as_node, first_node, left}
use Rattle.config.specs.declared.Node.{Node}
use Rattle.entries.proofs.Runs.{by_silence}
use Rattle.entries.proofs.Stands.{Plain, Stands, line₃, line_size, plain_name, plain_node, plain_v4, plain_v6, three_line}

-- the octets of `node`, the word behind it and a tab each
abbrev pub name_words : List ℕ
name_words = 110 ∷ 111 ∷ 100 ∷ 101 ∷ 9 ∷ 110 ∷ 97 ∷ 109 ∷ 101 ∷ 9 ∷ []

abbrev pub words : ℕ → List ℕ
words digit = 110 ∷ 111 ∷ 100 ∷ 101 ∷ 9 ∷ 118 ∷ digit ∷ 9 ∷ []

module _ (l : List ℕ) (at : ℕ) where
  -- an entry that is `node`
  noded : (e : Entry) (r : Field Node) → entries_from l at ≡ e ∷ entries_from l r.next → as_node (at + before_name) e ≡ Some r.value → r.next ≤ length l → NodeWithin l (Some r.value)
      → NodedIs l at (Some r)
  unfolding first_node after_node left
  noded e r h k within inside = (rw (h, k), rw (h, k), within, inside)

  -- no address of a version stands behind its word
  abbrev NoAddress : ℕ → List ℕ → Type 0
  NoAddress v word = (f m : List ℕ) (x : ℕ) → drop at l ≡ line₃ (text "node") word f m → length f ≡ 2 * width_of v → read_digits 16 f ≡ Some x → ⊥

  -- what no line at the place may say
  pub record NoNode : Type 0 where
    pub name : (f m : List ℕ) → drop at l ≡ line₃ (text "node") (text "name") f m → is_name f ≡ true → ⊥
    pub four : NoAddress 4 (text "v4")
    pub six : NoAddress 6 (text "v6")

  not_noded : NoNode → NodedIs l at None
  unfolding first_node after_node left as_node
  not_noded unsaid =
      by_silence (as_node (at + before_name)) l at other (λ (es : List Entry). (first_node (at + before_name) es ≡ None) × (after_node (at + before_name) es ≡ es)) (refl, refl) (λ x es k. (k, rw k))
    where
      other : (x : Entry) → Stands (drop at l) x → as_node (at + before_name) x ≡ None
      other (Home p) s = refl
      other (Name n) s = absurd (unsaid.name s.0 s.1 s.2 s.3)
      other (Entry.Node a) (inl s) = absurd (unsaid.four s.0 s.2 s.1 s.3 s.4 s.5)
      other (Entry.Node a) (inr s) = absurd (unsaid.six s.0 s.2 s.1 s.3 s.4 s.5)
      other (Preference x) s = refl
      other (Bar p) s = refl
      other Bad s = refl

  -- a line of the word `node`, another word and a field
  line_noded : (k f : List ℕ) → Plain k → Plain f → (r : Field Node) → drop at l ≡ line₃ (text "node") k f (drop r.next l) → r.next ≤ length l
      → (e : Entry) → three (text "node") k f ≡ e → as_node (at + before_name) e ≡ Some r.value → NodeWithin l (Some r.value) → NodedIs l at (Some r)
  line_noded k f pk pf r e within entry says is inside =
      noded entry r ((three_line l at r.next within (text "node") k f plain_node pk pf e).0 ∙ ap (λ (x : Entry). x ∷ entries_from l r.next) says) is within inside

  -- none of them begins the line
  pub no_words : BeginsIs l at name_words false → BeginsIs l at (words 52) false → BeginsIs l at (words 54) false → NodedIs l at None
  unfolding text
  no_words name four six = not_noded (record {
    name = λ f m e s. name (f ++ 10 ∷ m) e;
    four = λ f m x e s t. four (f ++ 10 ∷ m) e;
    six = λ f m x e s t. six (f ++ 10 ∷ m) e;
  })

  -- the octets of two lines that are the same differ at a place
  differ : (k : ℕ) (a b : List ℕ) → drop at l ≡ a → drop at l ≡ b → (get_or a k 0 ≡ get_or b k 0 → ⊥) → ⊥
  differ k a b e f h = h (ap (λ (r : List ℕ). get_or r k 0) (sym e ∙ f))

  pub name_noded : BeginsIs l at name_words true → (r : Option (Field Node)) → NameIs l (at + 10) r → NodedIs l at r
  unfolding as_node before_name text same three node_entry name_entry
  name_noded begins None h = not_noded (record {
    name = λ f m e s. h f m (ap (drop 10) (sym begins.0 ∙ e)) s;
    four = λ f m x e s t. differ 5 _ _ begins.0 e (λ q. omega arith);
    six = λ f m x e s t. differ 5 _ _ begins.0 e (λ q. omega arith);
  })
  name_noded begins (Some r) (f, s, says, is) =
      line_noded (text "name") f plain_name (name_free 9 f (omega arith) says, name_free 10 f (omega arith) says) r (begins.0 ∙ ap (λ (m : List ℕ). name_words ++ m) s.is) s.within
      (Name (length f)) (ap (λ (t : Bool). cond t (Name (length f)) Bad) says) (ap Some (sym is))
      (subst (λ (n : Node). NodeWithin l (Some n)) (sym is) (let size = line_size l (at + 10) f r.next s.is s.within in omega arith))

  module _ (v : ℕ) (k f : List ℕ) (plain : Plain k) (says : three (text "node") k f ≡ version_entry v f) where
    address_noded : (r : Field Node) (x : ℕ) → drop at l ≡ line₃ (text "node") k f (drop r.next l) → r.next ≤ length l → length f ≡ 2 * width_of v → read_digits 16 f ≡ Some x
        → r.value ≡ Node.Address (address_of v x) → NodedIs l at (Some r)
    unfolding as_node
    address_noded r x e within size reads is =
        line_noded k f plain (hex_free 9 f x (omega arith) reads, hex_free 10 f x (omega arith) reads) r e within
        (Entry.Node (address_of v x)) (says ∙ sym (by_digits v f size reads)) (ap Some (sym is)) (subst (λ (n : Node). NodeWithin l (Some n)) (sym is) tt)

  pub four_noded : BeginsIs l at (words 52) true → (r : Option (Field Node)) → AddressIs 4 l (at + 8) r → NodedIs l at r
  unfolding text same three node_entry
  four_noded begins None h = not_noded (record {
    name = λ f m e s. differ 5 _ _ begins.0 e (λ q. omega arith);
    four = λ f m x e s t. h f m x (ap (drop 8) (sym begins.0 ∙ e)) s t;
    six = λ f m x e s t. differ 6 _ _ begins.0 e (λ q. omega arith);
  })
  four_noded begins (Some r) (f, x, s, size, reads, is) =
      address_noded 4 (text "v4") f plain_v4 refl r x (begins.0 ∙ ap (λ (m : List ℕ). words 52 ++ m) s.is) s.within size reads is

  pub six_noded : BeginsIs l at (words 54) true → (r : Option (Field Node)) → AddressIs 6 l (at + 8) r → NodedIs l at r
  unfolding text same three node_entry
  six_noded begins None h = not_noded (record {
    name = λ f m e s. differ 5 _ _ begins.0 e (λ q. omega arith);
    four = λ f m x e s t. differ 6 _ _ begins.0 e (λ q. omega arith);
    six = λ f m x e s t. h f m x (ap (drop 8) (sym begins.0 ∙ e)) s t;
  })
  six_noded begins (Some r) (f, x, s, size, reads, is) =
      address_noded 6 (text "v6") f plain_v6 refl r x (begins.0 ∙ ap (λ (m : List ℕ). words 54 ++ m) s.is) s.within size reads is
