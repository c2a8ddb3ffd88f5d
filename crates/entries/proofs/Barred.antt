-- A `bar` entry at a place.
use Rattle.std.specs.Prelude.{None, Some}
use Rattle.std.proofs.Common.{◌≡◌, ℕ, ◌+◌, true, false, List, [], ◌∷◌, ◌++◌, drop, refl, sym, ap, ◌∙◌}
use Rattle.octets.specs.Part.{same}
use Rattle.text.specs.Text.{text}
use Rattle.network.specs.declared.Plmn.{Plmn}
use Rattle.entry.specs.Entry.{bar_entry, three, Entry, Home, Name, Node, Preference, Bar, Bad}
use Rattle.entry.specs.Field.{plmn_of}
use Rattle.fields.specs.Read.{PlmnIs}
use Rattle.fields.specs.declared.field.Field.{Field}
use Rattle.entries.specs.Branch.{BeginsIs, ListedIs}
use Rattle.config.specs.Lines.{entries_from}
use Rattle.config.specs.Settings.{as_listed}
use Rattle.config.specs.declared.Kind.TheVariants as Kind
use Rattle.entries.proofs.Runs.{line_listed, not_listed}
use Rattle.entries.proofs.Stands.{Stands, line₃, plain_bar, plain_plmn, three_line}

-- the word `bar` and a tab
abbrev pub word : List ℕ
word = 98 ∷ 97 ∷ 114 ∷ 9 ∷ []

module _ (l : List ℕ) (at : ℕ) where
  no_bar : ((a b m : List ℕ) (p : Plmn) → drop at l ≡ line₃ (text "bar") a b m → plmn_of a b ≡ Some p → ⊥) → ListedIs Kind.Bar l at None
  unfolding as_listed
  no_bar h = not_listed Kind.Bar l at unlisted
    where
      unlisted : (e : Entry) → Stands (drop at l) e → as_listed Kind.Bar e ≡ None
      unlisted (Home p) s = refl
      unlisted (Name n) s = refl
      unlisted (Node a) s = refl
      unlisted (Preference x) s = refl
      unlisted (Bar p) s = absurd (h s.0 s.1 s.2 p s.3 s.4)
      unlisted Bad s = refl

  pub bar_other : BeginsIs l at word false → ListedIs Kind.Bar l at None
  unfolding text
  bar_other h = no_bar (λ a b m p e s. h (a ++ 9 ∷ (b ++ 10 ∷ m)) e)

  module _ (begins : BeginsIs l at word true) where
    pub bar_no_plmn : PlmnIs l (at + 4) 10 None → ListedIs Kind.Bar l at None
    unfolding text
    bar_no_plmn h = no_bar (λ a b m p e s. h a b m p (ap (drop 4) (sym begins.0 ∙ e)) s)

    pub bar_is : (r : Field Plmn) → PlmnIs l (at + 4) 10 (Some r) → ListedIs Kind.Bar l at (Some (record { value = record { plmn = r.value; priority = 0 }; next = r.next }))
    unfolding text same three bar_entry as_listed
    bar_is r (a, b, e, within, says) =
        let plain = plain_plmn a b r.value says in
        let line = three_line l at r.next within (text "bar") a b plain_bar plain.0 plain.1 (begins.0 ∙ ap (λ (m : List ℕ). word ++ m) e) in
        line_listed Kind.Bar l at (Bar r.value) r.next (line.0 ∙ ap (λ (y : Entry). y ∷ entries_from l r.next) (ap bar_entry says)) line.1 within _ refl
