-- `home` at the start of a text.
use Rattle.std.specs.Prelude.{Option, None, Some}
use Prim.Native.Nat.{ℕ, ◌+◌, ◌<◌}
use mathlib.Core.Bool.{true, false}
use mathlib.Core.List.{List, [], ◌∷◌, ◌++◌}
use mathlib.Core.Path.{◌≡◌, refl, sym, ap, ◌∙◌}
use native.Mathlib.Omega.{arith}
use lib.Dec.{eqb}
use lib.ListN.{length, get_or, drop, length-append, length-drop, get_or-append}
use lib.Seq.{get_or-append_seam, get_or-drop}
use borrow.Author.Tests.{eq-eqb, not-true}
use Rattle.octets.specs.Part.{octet_is, same}
use Rattle.text.specs.Text.{text}
use Rattle.network.specs.declared.Plmn.{Plmn}
use Rattle.entry.specs.Entry.{home_entry, three, Entry, Home, Name, Node, Preference, Bar, Bad}
use Rattle.entry.specs.Field.{plmn_of}
use Rattle.fields.proofs.Joins.{Free, is_not}
use Rattle.fields.proofs.Places.{passes_each}
use Rattle.fields.specs.Read.{PlmnIs}
use Rattle.fields.specs.declared.field.Field.{Field}
use Rattle.entries.specs.Branch.{BeginsIs, HomeIs}
use Rattle.config.proofs.Ends.{line_end_at}
use Rattle.config.specs.Lines.{entries_from, line_end}
use Rattle.config.specs.Settings.{as_home, config_of, from_home, name_place, with_home}
use Rattle.entries.proofs.Runs.{by_silence}
use Rattle.entries.proofs.Stands.{Stands, line₃, line_size, plain_home, plain_plmn, regroup₃, three_line, with_tab}

free_each : (x : ℕ) (l : List ℕ) → Free x l → (j : ℕ) → j < length l → eqb (get_or l j 0) x ≡ false
unfolding is_not
free_each x l e j h = not-true (eqb (get_or l j 0) x) (passes_each (is_not x) l e j h)

-- a line ends at its first newline
line_ends : (l : List ℕ) (at : ℕ) (line m : List ℕ) → drop at l ≡ line ++ 10 ∷ m → Free 10 line → line_end l at ≡ at + length line
unfolding octet_is
line_ends l at line m e free =
    line_end_at l at (length line) other (eq-eqb _ _ (get_d_of (length line) ∙ get_or-append_seam line 10 m 0))
    (omega (arith, ap length e, length-drop at l, length-append line (10 ∷ m)))
  where
    get_d_of : (k : ℕ) → get_or l (at + k) 0 ≡ get_or (line ++ 10 ∷ m) k 0
    get_d_of k = sym (get_or-drop at l k 0) ∙ ap (λ (r : List ℕ). get_or r k 0) e

    other : (k : ℕ) → k < length line → octet_is l at 10 k ≡ false
    other k h = ap (λ (v : ℕ). eqb v 10) (get_d_of k ∙ get_or-append line (10 ∷ m) 0 k h) ∙ free_each 10 line free k h

-- the word `home` and a tab
abbrev pub word : List ℕ
word = 104 ∷ 111 ∷ 109 ∷ 101 ∷ 9 ∷ []

module _ (l : List ℕ) where
  no_home : ((a b m : List ℕ) (p : Plmn) → l ≡ line₃ (text "home") a b m → plmn_of a b ≡ Some p → ⊥) → None ≡ config_of l
  unfolding as_home config_of from_home with_home
  no_home h = by_silence as_home l 0 other (λ (es : List Entry). None ≡ from_home (name_place l) es) refl (λ e es k. sym (rw k))
    where
      other : (e : Entry) → Stands l e → as_home e ≡ None
      other (Home p) s = absurd (h s.0 s.1 s.2 p s.3 s.4)
      other (Name n) s = refl
      other (Node a) s = refl
      other (Preference x) s = refl
      other (Bar p) s = refl
      other Bad s = refl

  pub home_other : BeginsIs l 0 word false → HomeIs l None
  unfolding text
  home_other h = no_home (λ a b m p e s. h (a ++ 9 ∷ (b ++ 10 ∷ m)) e)

  -- the PLMN behind the word decides
  pub home_is : BeginsIs l 0 word true → (r : Option (Field Plmn)) → PlmnIs l 5 10 r → HomeIs l r
  unfolding text same three home_entry
  home_is begins None none_here = no_home (λ a b m p e s. none_here a b m p (ap (drop 5) (sym begins.0 ∙ e)) s)
  home_is begins (Some r) (a, b, e, within, says) =
      let plain = plain_plmn a b r.value says in
      let whole : drop 0 l ≡ line₃ (text "home") a b (drop r.next l) = begins.0 ∙ ap (λ (m : List ℕ). word ++ m) e in
      let line = text "home" ++ 9 ∷ (a ++ 9 ∷ b) in
      let parts = whole ∙ sym (regroup₃ (text "home") a b (drop r.next l)) in
      let entry = three_line l 0 r.next within (text "home") a b plain_home plain.0 plain.1 whole in
      let size = line_size l 0 line r.next parts within in
      let ends = line_ends l 0 line (drop r.next l) parts (with_tab (text "home") (a ++ 9 ∷ b) plain_home.1 (with_tab a b plain.0.1 plain.1.1)) in
      (entry.0 ∙ ap (λ (y : Entry). y ∷ entries_from l r.next) (ap home_entry says), omega arith, within)
