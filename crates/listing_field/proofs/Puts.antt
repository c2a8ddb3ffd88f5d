-- Texts that are stored one behind the other.
use Prim.Native.Nat.{ℕ, ◌+◌, ◌≤◌}
use mathlib.Core.List.{List, [], ◌++◌}
use mathlib.Core.Path.{◌≡◌, refl, sym, ap, ap₂, ◌∙◌, subst}
use native.Mathlib.Omega.{arith}
use lib.ListN.{length, length-append}
use lib.Seq.{sets}
use Rattle.octets.specs.Part.{Wrote, padded, zeros}
use Rattle.octets.proofs.Parts.{padded_wrote, sets_append, then, wrote_length}
use Rattle.listing_field.specs.Put.{Fits, Put}

-- the same text
pub fits_as : {l : List ℕ} {at : ℕ} {vs ws : List ℕ} → vs ≡ ws → Fits l at vs → Fits l at ws
fits_as {l} {at} e f = subst (Fits l at) e f

pub put_as : {l m : List ℕ} {at next : ℕ} {vs ws : List ℕ} → vs ≡ ws → Put l at vs m next → Put l at ws m next
put_as {l} {m} {at} {next} e p = subst (λ (us : List ℕ). Put l at us m next) e p

-- a text with another one behind it
pub fits_first : {l : List ℕ} {at : ℕ} {vs : List ℕ} (ws : List ℕ) → Fits l at (vs ++ ws) → Fits l at vs
fits_first {l} {at} {vs} ws f = record { room = omega (arith, f.room, length-append vs ws) }

-- nothing is stored
pub put_none : (l : List ℕ) (at : ℕ) → Put l at [] l at
put_none l at = record { wrote = record { wrote = refl }; behind = omega arith }

module _ {l m : List ℕ} {at next : ℕ} {vs : List ℕ} (p : Put l at vs m next) where
  -- a second text, stored behind the first, makes one longer text
  pub and_then : {k : List ℕ} {end : ℕ} {ws : List ℕ} → Put m next ws k end → Put l at (vs ++ ws) k end
  and_then {k} {end} {ws} q = record {
    wrote = then p.wrote q.wrote p.behind;
    behind = omega (arith, p.behind, q.behind, length-append vs ws);
  }

  -- the second text fits where both did
  pub fits_behind : {ws : List ℕ} → Fits l at (vs ++ ws) → Fits m next ws
  fits_behind {ws} f = record { room = omega (arith, f.room, p.behind, wrote_length p.wrote, length-append vs ws) }

-- what is left to be stored from a place on makes the whole, which was to be stored in another list
pub record Left (b : List ℕ) (place : ℕ) (vs b₀ : List ℕ) (at : ℕ) (whole : List ℕ) : Type 0 where
  pub stored : sets b place vs ≡ sets b₀ at whole
  pub ends : place + length vs ≡ at + length whole
  pub size : length b ≡ length b₀

pub left_all : (b : List ℕ) (at : ℕ) (vs : List ℕ) → Left b at vs b at vs
left_all b at vs = record { stored = refl; ends = refl; size = refl }

module _ {b : List ℕ} {place : ℕ} {us b₀ : List ℕ} {at : ℕ} {whole : List ℕ} (left : Left b place us b₀ at whole) where
  -- a first part of what is left fits where the whole does
  pub left_fits : {vs : List ℕ} (ws : List ℕ) → us ≡ vs ++ ws → Fits b₀ at whole → Fits b place vs
  left_fits {vs} ws e f = record { room = omega (arith, f.room, left.ends, left.size, ap length e ∙ length-append vs ws) }

  -- once it is stored, the rest is left
  pub left_less : {vs ws m : List ℕ} {next : ℕ} → us ≡ vs ++ ws → Put b place vs m next → Left m next ws b₀ at whole
  left_less {vs} {ws} {m} {next} e p = record {
    stored =
        ap₂ (λ (k : List ℕ) (i : ℕ). sets k i ws) p.wrote.wrote p.behind ∙ sym (sets_append b place vs ws) ∙ ap (sets b place) (sym e) ∙ left.stored;
    ends = omega (arith, left.ends, p.behind, ap length e ∙ length-append vs ws);
    size = wrote_length p.wrote ∙ left.size;
  }

  -- where nothing is left, the whole is stored
  pub left_done : us ≡ [] → Put b₀ at whole b place
  left_done e = record { wrote = record { wrote = sym (ap (sets b place) e) ∙ left.stored }; behind = omega (arith, left.ends, ap length e) }

-- zeros with a text stored from their start, and its length
pub put_padded : {l m : List ℕ} {n next : ℕ} {vs : List ℕ} → l ≡ zeros n → length vs ≤ n → Put l 0 vs m next → (m ≡ padded n vs) × (next ≡ length vs)
put_padded {l} {m} {n} {next} {vs} clear room p =
    (padded_wrote n vs m room (subst (λ (k : List ℕ). Wrote k 0 vs m) clear p.wrote), omega (arith, p.behind))
