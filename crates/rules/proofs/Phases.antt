-- What a phase is by a test that it passes, and what its data are.
use Rattle.std.specs.Prelude.{Some, is_some}
use Prim.Native.Nat.{ℕ}
use mathlib.Core.Bool.{Bool, true, false, false≢true}
use mathlib.Core.Path.{◌≡◌, refl, sym, ap, ◌∙◌}
use lib.Dec.{ltb}
use Rattle.octets.proofs.Search.{and_left, and_right}
use Rattle.address.specs.declared.Address.{Address}
use Rattle.addresses.specs.Laws.{address_storable}
use Rattle.phase.specs.Chosen.{chosen}
use Rattle.phase.specs.Facts.{facts_fit}
use Rattle.phase.specs.Laws.{phase_storable, turn_storable}
use Rattle.phase.specs.Phase.{is_abroad, phase_fits}
use Rattle.phase.specs.Stage.{is_in}
use Rattle.phase.specs.Stage as Stage
use Rattle.phase.specs.declared.Phase.{Phase}
use Rattle.phase.specs.declared.Phase.TheVariants.{Idle, Country, Name, Chosen, Init, Auth, Eap, Sure, Live}
use Rattle.phase.specs.declared.Turn.{Turn}
use Rattle.phase.specs.declared.Turn.TheVariants.{First, Owed, Answered}
use Rattle.place.specs.declared.Facts.{Facts}
use Rattle.rules.specs.Phases.{facts_in, owed, turn_in}

-- a phase that passes a test which no live line passes
pub not_live : (t : Phase → Bool) → ((a : Address) → t (Live a) ≡ false) → (p : Phase) → t p ≡ true → is_in Stage.live p ≡ false
unfolding is_in
not_live t h Idle e = refl
not_live t h (Country f) e = refl
not_live t h (Name f) e = refl
not_live t h (Chosen a) e = refl
not_live t h (Init a) e = refl
not_live t h (Auth a) e = refl
not_live t h (Eap a i) e = refl
not_live t h (Sure a) e = refl
not_live t h (Live a) e = absurd (false≢true (sym (h a) ∙ e))

-- a phase that passes a test which no idle line passes
pub not_idle : (t : Phase → Bool) → t Idle ≡ false → (p : Phase) → t p ≡ true → is_in Stage.idle p ≡ false
unfolding is_in
not_idle t h Idle e = absurd (false≢true (sym h ∙ e))
not_idle t h (Country f) e = refl
not_idle t h (Name f) e = refl
not_idle t h (Chosen a) e = refl
not_idle t h (Init a) e = refl
not_idle t h (Auth a) e = refl
not_idle t h (Eap a i) e = refl
not_idle t h (Sure a) e = refl
not_idle t h (Live a) e = refl

-- the chosen address of a phase
module _ (p : Phase) (a : Address) (e : chosen p ≡ Some a) where
  -- only a line that isn't idle has one
  pub chosen_busy : is_in Stage.idle p ≡ false
  unfolding chosen
  chosen_busy = not_idle (λ q. is_some (chosen q)) refl p (ap is_some e)

-- the chosen address fits its octets
pub chosen_storable : (p : Phase) (a : Address) → chosen p ≡ Some a → phase_storable p ≡ true → address_storable a ≡ true
unfolding chosen phase_storable
chosen_storable Idle a e h = cc
chosen_storable (Country f) a e h = cc
chosen_storable (Name f) a e h = cc
chosen_storable (Chosen b) a e h = cc
chosen_storable (Init b) a e h = cc
chosen_storable (Auth b) a e h = cc
chosen_storable (Eap b t) a e h = let k = and_left (address_storable b) (turn_storable t) h in cc
chosen_storable (Sure b) a e h = cc
chosen_storable (Live b) a e h = cc

-- only a line that isn't idle keeps place facts
pub facts_busy : (p : Phase) (f : Facts) → facts_in p ≡ Some f → is_in Stage.idle p ≡ false
unfolding facts_in
facts_busy p f e = not_idle (λ q. is_some (facts_in q)) refl p (ap is_some e)

-- the place facts of a phase are in their ranges
pub facts_fit_lem : (p : Phase) (f : Facts) → facts_in p ≡ Some f → phase_fits p ≡ true → facts_fit f ≡ true
unfolding facts_in phase_fits
facts_fit_lem Idle f e h = cc
facts_fit_lem (Country g) f e h = let k = and_left (facts_fit g) (is_abroad g.place) h in cc
facts_fit_lem (Name g) f e h = cc
facts_fit_lem (Chosen a) f e h = cc
facts_fit_lem (Init a) f e h = cc
facts_fit_lem (Auth a) f e h = cc
facts_fit_lem (Eap a t) f e h = cc
facts_fit_lem (Sure a) f e h = cc
facts_fit_lem (Live a) f e h = cc

-- an identifier that is owed is one octet
owed_storable : (t : Turn) (i : ℕ) → owed (Some t) ≡ Some i → turn_storable t ≡ true → ltb i 256 ≡ true
unfolding owed turn_storable
owed_storable (First j) i e h = cc
owed_storable (Owed j) i e h = cc
owed_storable (Answered j) i e h = cc

pub identifier_storable : (p : Phase) (i : ℕ) → owed (turn_in p) ≡ Some i → phase_storable p ≡ true → ltb i 256 ≡ true
unfolding turn_in owed phase_storable
identifier_storable Idle i e h = cc
identifier_storable (Country f) i e h = cc
identifier_storable (Name f) i e h = cc
identifier_storable (Chosen a) i e h = cc
identifier_storable (Init a) i e h = cc
identifier_storable (Auth a) i e h = cc
identifier_storable (Eap a t) i e h = owed_storable t i e (and_right (address_storable a) (turn_storable t) h)
identifier_storable (Sure a) i e h = cc
identifier_storable (Live a) i e h = cc
