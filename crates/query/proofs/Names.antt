-- A name stored over zeros is padded by those after it, and is the buffer's first part.
use Prim.Native.Nat.{ℕ, ◌+◌, ◌-◌, ◌≤◌}
use mathlib.Core.List.{List, []}
use mathlib.Core.Path.{◌≡◌, refl, sym, ap, ◌∙◌, subst}
use native.Mathlib.Nat.{sub-zero}
use native.Mathlib.Omega.{arith}
use lib.ListN.{length, take, length-append}
use lib.Seq.{take-append_seam}
use Rattle.octets.specs.Part.{part, zeros, padded, Wrote}
use Rattle.octets.proofs.Parts.{length_zeros, padded_wrote}
use Rattle.network.specs.Name.{Named}
use Rattle.network.specs.declared.Plmn.{Plmn}
use Rattle.selection.specs.declared.Choice.{Choice}
use Rattle.selection.specs.declared.Choice.TheVariants.{Stop, Country, Text, Network, Address}
use Rattle.selection.specs.Query.{asked, built, Lies, TextWithin}

-- zeros with a name of r octets stored from their start
pub named : (name : List ℕ) {n r : ℕ} {l m : List ℕ} → r ≡ length name → r ≤ n → l ≡ zeros n
    → Wrote l 0 name m → Named name n m r
named name {n} {r} {l} {m} e room cleared w = record {
  whole = padded_wrote n name m (omega arith) (subst (λ (k : List ℕ). Wrote k 0 name m) cleared w);
  size = e;
}

module _ (l b : List ℕ) (n : ℕ) (named : Named l (length b) b n) where
  pub name_fits : 0 + n ≤ length b
  unfolding padded
  name_fits =
      let size : n ≡ length l = named.size in
      let whole : length b ≡ length l + (length b - length l) = ap length named.whole ∙ length-append l (zeros (length b - length l)) ∙ ap (λ (k : ℕ). length l + k) (length_zeros (length b - length l)) in
      omega arith

  pub name_part : part b 0 n ≡ l
  unfolding part padded
  name_part = ap (λ (k : ℕ). take k b) named.size ∙ ap (take (length l)) named.whole ∙ take-append_seam l (zeros (length b - length l))

-- zeros hold no name
pub no_name_lem : (n : ℕ) (b : List ℕ) → b ≡ zeros n → Named [] n b 0
unfolding padded
no_name_lem n b e = record { whole = e ∙ ap zeros (sym (sub-zero n)); size = refl }

-- no name is built but for a country and a network
pub none_built : (c : Choice) → ((mcc : ℕ) → c ≡ Country mcc → ⊥) → ((p : Plmn) → c ≡ Network p → ⊥) → built c ≡ []
unfolding built
none_built (Stop k) other else_other = refl
none_built (Country mcc) other else_other = absurd (other mcc refl)
none_built (Text at k) other else_other = refl
none_built (Network p) other else_other = absurd (else_other p refl)
none_built (Address a) other else_other = refl

-- the name of every choice but a part of the text is the one that is built
pub asked_built : (text : List ℕ) (c : Choice) → ((at k : ℕ) → c ≡ Text at k → ⊥) → built c ≡ asked text c
unfolding asked built
asked_built text (Stop k) other = refl
asked_built text (Country mcc) other = refl
asked_built text (Text at k) other = absurd (other at k refl)
asked_built text (Network p) other = refl
asked_built text (Address a) other = refl

-- a name that was built for a choice lies in its slice
pub lies : (text name : List ℕ) (n room : ℕ) (c : Choice) → TextWithin text c → Named (built c) room name n → length name ≡ room → Lies text name n c
lies text name n room c within named sized = record { in_text = within; in_name = subst (λ (k : ℕ). Named (built c) k name n) (sym sized) named }
