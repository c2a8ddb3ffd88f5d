-- The word and the address of a phase by the octets of its record.
use Rattle.std.specs.Prelude.{Some}
use Prim.Native.Nat.{ℕ, ◌≤◌, ◌<◌}
use mathlib.Core.Bool.{true}
use mathlib.Core.List.{List, [], ◌∷◌}
use mathlib.Core.Path.{◌≡◌, refl, sym, ap, ◌∙◌, subst}
use lib.ListN.{get_or, get_or-eq_default}
use Rattle.octets.specs.Digits.{field}
use Rattle.address.specs.declared.Address.{Address}
use Rattle.addresses.specs.Addresses.{address_from}
use Rattle.phase.specs.Chosen.{chosen}
use Rattle.phase.specs.Phase.{is_phase, phase_from}
use Rattle.phase.specs.Stage.{Stage, stage_number, stage_of}
use Rattle.phase.proofs.Stood.{chosen_at, none_at, stage_at}
use Rattle.text.specs.Text.{text}
use Rattle.rules.specs.Listing.{address_text, word}

-- the phases before the last, in the order of their numbers, and the phase with a number
abbrev before_live_lem : List Stage
before_live_lem = Stage.idle ∷ Stage.country ∷ Stage.name ∷ Stage.chosen ∷ Stage.init ∷ Stage.auth ∷ Stage.eap ∷ Stage.sure ∷ []

abbrev pub numbered : ℕ → Stage
numbered n = get_or before_live_lem n Stage.live

its_number : (s : Stage) → numbered (stage_number s) ≡ s
its_number Stage.idle = refl
its_number Stage.country = refl
its_number Stage.name = refl
its_number Stage.chosen = refl
its_number Stage.init = refl
its_number Stage.auth = refl
its_number Stage.eap = refl
its_number Stage.sure = refl
its_number Stage.live = refl

-- a number behind all of them is the last one's
pub last_number : (k : ℕ) → 8 ≤ k → numbered k ≡ Stage.live
last_number k h = get_or-eq_default before_live_lem Stage.live {n = k} h

-- the phase in a line's octets, whose number is k
module _ (l : List ℕ) (stands : is_phase l 5 ≡ true) {k : ℕ} (read : k ≡ field l 5 1) where
  pub word_at : (s : Stage) → numbered k ≡ s → text (word s) ≡ text (word (stage_of (phase_from l 5)))
  word_at s e =
      sym (ap (λ (q : Stage). text (word q)) (sym (its_number (stage_of (phase_from l 5))) ∙ ap numbered (stage_at l 5 stands ∙ sym read) ∙ e))

  pub hyphen_at : k < 3 → address_text (chosen (phase_from l 5)) ≡ text "-"
  unfolding address_text
  hyphen_at h = ap address_text (none_at l 5 (subst (λ (n : ℕ). n < 3) read h))

  pub address_at_lem : 3 ≤ k → {a : Address} → a ≡ address_from l 6 → address_text (chosen (phase_from l 5)) ≡ address_text (Some a)
  address_at_lem h e = ap address_text ((chosen_at l 5 stands (subst (λ (n : ℕ). 3 ≤ n) read h)).0 ∙ ap Some (sym e))
