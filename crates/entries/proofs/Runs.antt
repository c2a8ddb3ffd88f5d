-- The entries of a sort at the start of a text, line by line.
use Rattle.entry.specs.Entry.{Entry}
use Rattle.std.specs.Prelude.{Option, None, Some}
use Prim.Native.Nat.{ℕ, ◌≤◌, ◌<◌}
use mathlib.Core.List.{List, [], ◌∷◌}
use mathlib.Core.Path.{◌≡◌, refl, sym, ap, ◌∙◌, subst}
use lib.ListN.{length, drop}
use Rattle.entry.specs.declared.field.Preferred.{Preferred}
use Rattle.config.specs.Lines.{entries_from}
use Rattle.entries.specs.Branch.{ListedIs}
use Rattle.config.specs.Settings.{as_listed, section, rest, taken, left}
use Rattle.config.specs.declared.Kind.{Kind}
use Rattle.entries.proofs.Stands.{Stands, first_stands}

-- no line at a place says anything of a sort
module _ {A : Type 0} (say : Entry → Option A) (l : List ℕ) (at : ℕ) where
  abbrev pub Silent : Type 0
  Silent = (e : Entry) → Stands (drop at l) e → say e ≡ None

  -- what holds of no entries, and where the first says nothing of the sort, holds of the entries there
  pub by_silence : Silent → (P : List Entry → Type 0) → P [] → ((e : Entry) (es : List Entry) → say e ≡ None → P (e ∷ es)) → P (entries_from l at)
  unfolding entries_from
  by_silence silent P ended skipped = go (entries_from l at) refl
    where
      go : (es : List Entry) → entries_from l at ≡ es → P (entries_from l at)
      go [] q = subst P (sym q) ended
      go (e ∷ es) q = subst P (sym q) (skipped e es (silent e (first_stands (drop at l) e es q)))

module _ (kind : Kind) (l : List ℕ) (at : ℕ) where
  abbrev f : Entry → Option Preferred
  f = as_listed kind

  -- nothing of the kind stands at the start
  pub not_listed : Silent f l at → ListedIs kind l at None
  unfolding section rest taken left
  not_listed silent = by_silence f l at silent (λ (es : List Entry). (section f es ≡ []) × (rest f es ≡ es)) (refl, refl) (λ e es k. (rw k, rw k))

  pub line_listed : (e : Entry) (next : ℕ) → entries_from l at ≡ e ∷ entries_from l next → at < next → next ≤ length l → (x : Preferred) → Some x ≡ as_listed kind e → ListedIs kind l at (Some (record { value = x; next = next }))
  unfolding section rest taken left
  line_listed e next h below within x k = (
    ap (section f) h ∙ ap (λ (o : Option Preferred). taken o (section f (entries_from l next))) (sym k),
    ap (rest f) h ∙ ap (λ (o : Option Preferred). left o (e ∷ entries_from l next) (rest f (entries_from l next))) (sym k),
    below,
    within,
  )
