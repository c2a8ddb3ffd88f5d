-- A `plmn` entry at a place.
use Rattle.std.specs.Prelude.{None, Some}
use Rattle.std.proofs.Common.{◌≡◌, ℕ, ◌+◌, true, false, List, [], ◌∷◌, ◌++◌, drop, refl, sym, ap, ap₂, ◌∙◌}
use Rattle.octets.specs.Part.{same}
use Rattle.text.specs.Text.{text}
use Rattle.network.specs.declared.Plmn.{Plmn}
use Rattle.entry.specs.Entry.{four, plmn_entry, Entry, Home, Name, Node, Preference, Bar, Bad}
use Rattle.entry.specs.Field.{plmn_of, priority_of}
use Rattle.fields.specs.Read.{PlmnIs, PriorityIs}
use Rattle.fields.specs.declared.field.Field.{Field}
use Rattle.fields.proofs.Characters.{priority_field}
use Rattle.entries.specs.Branch.{BeginsIs, ListedIs}
use Rattle.config.specs.Lines.{entries_from}
use Rattle.config.specs.Settings.{as_listed}
use Rattle.config.specs.declared.Kind.TheVariants as Kind
use Rattle.entries.proofs.Runs.{line_listed, not_listed}
use Rattle.entries.proofs.Stands.{Stands, four_line, line₄, plain_digits, plain_plmn, plain_plmn_word, rest_same}

-- the word `plmn` and a tab
abbrev pub word : List ℕ
word = 112 ∷ 108 ∷ 109 ∷ 110 ∷ 9 ∷ []

module _ (l : List ℕ) (at : ℕ) where
  no_preference : ((a b c m : List ℕ) (p : Plmn) (x : ℕ) → drop at l ≡ line₄ (text "plmn") a b c m → plmn_of a b ≡ Some p → priority_of c ≡ Some x → ⊥) → ListedIs Kind.Plmn l at None
  unfolding as_listed
  no_preference h = not_listed Kind.Plmn l at unlisted
    where
      unlisted : (e : Entry) → Stands (drop at l) e → as_listed Kind.Plmn e ≡ None
      unlisted (Home p) s = refl
      unlisted (Name n) s = refl
      unlisted (Node a) s = refl
      unlisted (Preference x) s = absurd (h s.0 s.1 s.2 s.3 x.plmn x.priority s.4 s.5 s.6)
      unlisted (Bar p) s = refl
      unlisted Bad s = refl

  pub preference_other : BeginsIs l at word false → ListedIs Kind.Plmn l at None
  unfolding text
  preference_other h = no_preference (λ a b c m p x e s t. h (a ++ 9 ∷ (b ++ 9 ∷ (c ++ 10 ∷ m))) e)

  module _ (begins : BeginsIs l at word true) where
    -- what stands behind the word
    behind : (a b c m : List ℕ) → drop at l ≡ line₄ (text "plmn") a b c m → drop (at + 5) l ≡ a ++ 9 ∷ (b ++ 9 ∷ (c ++ 10 ∷ m))
    unfolding text
    behind a b c m e = ap (drop 5) (sym begins.0 ∙ e)

    pub preference_no_plmn : PlmnIs l (at + 5) 9 None → ListedIs Kind.Plmn l at None
    preference_no_plmn h = no_preference (λ a b c m p x e s t. h a b (c ++ 10 ∷ m) p (behind a b c m e) s)

    module _ (r : Field Plmn) (first : PlmnIs l (at + 5) 9 (Some r)) where
      pub preference_no_priority : PriorityIs l r.next None → ListedIs Kind.Plmn l at None
      preference_no_priority h =
          no_preference (λ a b c m q y e s t.
          let known = plain_plmn first.0 first.1 r.value first.4 in
          let plain = plain_plmn a b q s in
          let tail = rest_same 9 first.0 a _ _ known.0.0 plain.0.0 (sym first.2 ∙ behind a b c m e) in
          h c m y (rest_same 9 first.1 b _ _ known.1.0 plain.1.0 tail) t)

      pub preference_is : (y : Field ℕ) → PriorityIs l r.next (Some y) → ListedIs Kind.Plmn l at (Some (record { value = record { plmn = r.value; priority = y.value }; next = y.next }))
      unfolding text same four plmn_entry as_listed
      preference_is y (c, f, within, priority) =
          let a = first.0 in
          let b = first.1 in
          let plain = plain_plmn a b r.value first.4 in
          let reads = priority_field c y.value priority in
          let line = four_line l at y.next within (text "plmn") a b plain_plmn_word plain.0 plain.1 c (plain_digits c y.value reads.reads) (begins.0 ∙ ap (λ (m : List ℕ). word ++ m) (first.2 ∙ ap (λ (m : List ℕ). a ++ 9 ∷ (b ++ 9 ∷ m)) f)) in
          line_listed Kind.Plmn l at (Preference (record { plmn = r.value; priority = y.value })) y.next (line.0 ∙ ap (λ (z : Entry). z ∷ entries_from l y.next) (ap₂ plmn_entry first.4 priority)) line.1 within _ refl
