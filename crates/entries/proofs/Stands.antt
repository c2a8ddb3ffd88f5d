-- The line at a place and the entry that it says.
use Rattle.std.specs.Prelude.{Some}
use Prim.Native.Nat.{ℕ, suc, ◌+◌, ◌*◌, ◌≤◌, ◌<◌}
use mathlib.Core.Bool.{true}
use mathlib.Core.List.{List, [], ◌∷◌, ◌++◌, append_assoc}
use mathlib.Core.Logic.{◌⊎◌, inl, inr}
use mathlib.Core.Path.{◌≡◌, refl, sym, ap, ◌∙◌, subst}
use native.Mathlib.Omega.{arith}
use lib.ListN.{length, drop, length-append, length-drop}
use borrow.Author.Tests.{eqb-false, not-true}
use lib.Dec.{eqb}
use Rattle.octets.specs.Search.{all_of}
use Rattle.octets.proofs.Search.{and_left, and_right}
use Rattle.text.specs.Text.{text, read_digits}
use Rattle.network.specs.declared.Plmn.{Plmn}
use Rattle.address.specs.Address.{width_of}
use Rattle.entry.specs.Entry.{four, line_entry, three, Entry, Home, Name, Node, Preference, Bar, Bad}
use Rattle.entry.specs.Field.{is_name, plmn_of, priority_of}
use Rattle.entry.specs.Pieces.{pieces}
use Rattle.fields.proofs.Characters.{decimal_free, plmn_fields}
use Rattle.fields.proofs.Joins.{Free, begins, free_join, is_not, piece_ends, some_piece}
use Rattle.fields.proofs.Says.{Says, four_joined, four_parted, said, three_joined, three_parted}
use Rattle.config.specs.Lines.{entries, entries_from, last_entry}

-- three fields and a newline
abbrev pub line₃ : List ℕ → List ℕ → List ℕ → List ℕ → List ℕ
line₃ w a b m = w ++ 9 ∷ (a ++ 9 ∷ (b ++ 10 ∷ m))

-- four fields and a newline
abbrev pub line₄ : List ℕ → List ℕ → List ℕ → List ℕ → List ℕ → List ℕ
line₄ w a b c m = w ++ 9 ∷ (a ++ 9 ∷ (b ++ 9 ∷ (c ++ 10 ∷ m)))

-- a node's address of 2 * width_of version digits
abbrev Address : ℕ → List ℕ → List ℕ → Type 0
Address version k d = (f : List ℕ) × (x : ℕ) × (m : List ℕ) × (d ≡ line₃ (text "node") k f m) × (length f ≡ 2 * width_of version) × (read_digits 16 f ≡ Some x)

-- how a text begins whose first line says an entry
abbrev pub Stands : List ℕ → Entry → Type 0
Stands d (Home p) = (a : List ℕ) × (b : List ℕ) × (m : List ℕ) × (d ≡ line₃ (text "home") a b m) × (plmn_of a b ≡ Some p)
Stands d (Name n) = (f : List ℕ) × (m : List ℕ) × (d ≡ line₃ (text "node") (text "name") f m) × (is_name f ≡ true)
Stands d (Node a) = Address 4 (text "v4") d ⊎ Address 6 (text "v6") d
Stands d (Preference x) =
    (a : List ℕ) × (b : List ℕ) × (c : List ℕ) × (m : List ℕ) × (d ≡ line₄ (text "plmn") a b c m) × (plmn_of a b ≡ Some x.plmn) × (priority_of c ≡ Some x.priority)
Stands d (Bar p) = (a : List ℕ) × (b : List ℕ) × (m : List ℕ) × (d ≡ line₃ (text "bar") a b m) × (plmn_of a b ≡ Some p)
Stands d Bad = Unit {0}

pub regroup₃ : (w a b m : List ℕ) → (w ++ 9 ∷ (a ++ 9 ∷ b)) ++ 10 ∷ m ≡ line₃ w a b m
regroup₃ w a b m = simp append_assoc

pub regroup₄ : (w a b c m : List ℕ) → (w ++ 9 ∷ (a ++ 9 ∷ (b ++ 9 ∷ c))) ++ 10 ∷ m ≡ line₄ w a b c m
regroup₄ w a b c m = simp append_assoc

module _ (d line m : List ℕ) (q : d ≡ line ++ 10 ∷ m) where
  join₃ : (w a b : List ℕ) → pieces 9 line ≡ w ∷ a ∷ b ∷ [] → d ≡ line₃ w a b m
  join₃ w a b e = q ∙ ap (λ (l : List ℕ). l ++ 10 ∷ m) (three_joined line w a b e) ∙ regroup₃ w a b m

  stands : (e : Entry) → Says (pieces 9 line) e → Stands d e
  stands (Home p) s = (s.0, s.1, m, join₃ _ _ _ s.2, s.3)
  stands (Name n) s = (s.0, m, join₃ _ _ _ s.1, s.2)
  stands (Node a) (inl s) = inl (s.0, s.1, m, join₃ _ _ _ s.2, s.3, s.4)
  stands (Node a) (inr s) = inr (s.0, s.1, m, join₃ _ _ _ s.2, s.3, s.4)
  stands (Preference x) s = (s.0, s.1, s.2, m, q ∙ ap (λ (l : List ℕ). l ++ 10 ∷ m) (four_joined line (text "plmn") s.0 s.1 s.2 s.3) ∙ regroup₄ (text "plmn") s.0 s.1 s.2 m, s.4, s.5)
  stands (Bar p) s = (s.0, s.1, m, join₃ _ _ _ s.2, s.3)
  stands Bad s = tt

-- the first entry of a text stands at its start
pub first_stands : (d : List ℕ) (e : Entry) (es : List Entry) → entries (pieces 10 d) ≡ e ∷ es → Stands d e
unfolding entries last_entry line_entry
first_stands d e es h = let s = some_piece 10 d in go s.0 s.1 s.2 (sym (ap entries s.2) ∙ h)
  where
    go : (p : List ℕ) (ps : List (List ℕ)) → pieces 10 d ≡ p ∷ ps → entries (p ∷ ps) ≡ e ∷ es → Stands d e
    go [] [] f g = absurd (let z : ◌≡◌ {A = ℕ} 0 1 = cc in omega arith)
    go (c ∷ p) [] f g = let bad : Bad ≡ e = cc in subst (Stands d) bad tt
    go p (q ∷ qs) f g =
        let b = begins 10 d p (q ∷ qs) f in
        let is : line_entry p ≡ e = cc in
        subst (Stands d) is (stands d p b.0 b.1 (line_entry p) (said (pieces 9 p)))

-- a line without a newline in it says its entry
module _ (l : List ℕ) (at : ℕ) (line : List ℕ) (next : ℕ) (e : drop at l ≡ line ++ 10 ∷ drop next l) (within : next ≤ length l) where
  pub line_entry_lem : Free 10 line → entries_from l at ≡ line_entry line ∷ entries_from l next
  unfolding entries_from entries
  line_entry_lem f = let s = some_piece 10 (drop next l) in rw (e, piece_ends 10 line (drop next l) f, s.2)

  pub line_size : at + suc (length line) ≡ next
  line_size = omega (arith, ap length e, length-drop at l, length-drop next l, length-append line (10 ∷ drop next l))

-- a field has neither a tab nor a newline
abbrev pub Plain : List ℕ → Type 0
Plain f = Free 9 f × Free 10 f

pub plain_digits : (f : List ℕ) (x : ℕ) → read_digits 10 f ≡ Some x → Plain f
plain_digits f x e = (decimal_free 9 f x (omega arith) e, decimal_free 10 f x (omega arith) e)

-- the fields of a PLMN
pub plain_plmn : (a b : List ℕ) (p : Plmn) → plmn_of a b ≡ Some p → Plain a × Plain b
plain_plmn a b p e = let f = plmn_fields a b p e in (plain_digits a f.mcc f.mcc_read, plain_digits b f.mnc f.mnc_read)

-- a tab and a field behind a field without a newline
pub with_tab : (a b : List ℕ) → Free 10 a → Free 10 b → Free 10 (a ++ 9 ∷ b)
unfolding all_of is_not
with_tab a b e f = free_join 10 a (9 ∷ b) e f

-- a line of three or four fields says its entry
module _ (l : List ℕ) (at next : ℕ) (within : next ≤ length l) (w a b : List ℕ) (pw : Plain w) (pa : Plain a) (pb : Plain b) where
  pub three_line : drop at l ≡ line₃ w a b (drop next l) → (entries_from l at ≡ three w a b ∷ entries_from l next) × (at < next)
  three_line e =
      let line = w ++ 9 ∷ (a ++ 9 ∷ b) in
      let d = e ∙ sym (regroup₃ w a b (drop next l)) in (
        line_entry_lem l at line next d within (with_tab w (a ++ 9 ∷ b) pw.1 (with_tab a b pa.1 pb.1))
            ∙ ap (λ (x : Entry). x ∷ entries_from l next) (three_parted w a b pw.0 pa.0 pb.0),
        (let size = line_size l at line next d within in omega arith),
      )

  pub four_line : (c : List ℕ) → Plain c → drop at l ≡ line₄ w a b c (drop next l) → (entries_from l at ≡ four w a b c ∷ entries_from l next) × (at < next)
  four_line c pc e =
      let line = w ++ 9 ∷ (a ++ 9 ∷ (b ++ 9 ∷ c)) in
      let d = e ∙ sym (regroup₄ w a b c (drop next l)) in (
        line_entry_lem l at line next d within (with_tab w (a ++ 9 ∷ (b ++ 9 ∷ c)) pw.1 (with_tab a (b ++ 9 ∷ c) pa.1 (with_tab b c pb.1 pc.1)))
            ∙ ap (λ (x : Entry). x ∷ entries_from l next) (four_parted w a b c pw.0 pa.0 pb.0 pc.0),
        (let size = line_size l at line next d within in omega arith),
      )

-- the words of lines
pub plain_bar : Plain (text "bar")
unfolding text all_of is_not
plain_bar = (refl, refl)

pub plain_plmn_word : Plain (text "plmn")
unfolding text all_of is_not
plain_plmn_word = (refl, refl)

pub plain_home : Plain (text "home")
unfolding text all_of is_not
plain_home = (refl, refl)

pub plain_name : Plain (text "name")
unfolding text all_of is_not
plain_name = (refl, refl)

pub plain_v4 : Plain (text "v4")
unfolding text all_of is_not
plain_v4 = (refl, refl)

pub plain_v6 : Plain (text "v6")
unfolding text all_of is_not
plain_v6 = (refl, refl)

pub plain_node : Plain (text "node")
unfolding text all_of is_not
plain_node = (refl, refl)

free_tail : (x c : ℕ) (l : List ℕ) → Free x (c ∷ l) → Free x l
unfolding all_of
free_tail x c l e = and_right (is_not x c) (all_of (is_not x) l) e

not_first : (x c : ℕ) (l : List ℕ) → Free x (c ∷ l) → c ≡ x → ⊥
unfolding all_of is_not
not_first x c l e h = eqb-false c x (not-true (eqb c x) (and_left (is_not x c) (all_of (is_not x) l) e)) h

-- what stands behind the first separator is known
pub rest_same : (x : ℕ) (a b r s : List ℕ) → Free x a → Free x b → a ++ x ∷ r ≡ b ++ x ∷ s → r ≡ s
rest_same x [] [] r s e f h = cc
rest_same x [] (d ∷ b) r s e f h = absurd (not_first x d b f (cc))
rest_same x (c ∷ a) [] r s e f h = absurd (not_first x c a e (cc))
rest_same x (c ∷ a) (d ∷ b) r s e f h = rest_same x a b r s (free_tail x c a e) (free_tail x d b f) (cc)
