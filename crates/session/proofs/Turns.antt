-- What the variants of a phase and of its turn tell of the identifiers during EAP.
use Rattle.std.specs.Prelude.{None, Some, ltb, ◌==◌}
use Prim.Native.Nat.{ℕ, zero, suc}
use mathlib.Core.Bool.{false, true≢false}
use mathlib.Core.List.{[], ◌∷◌}
use mathlib.Core.Path.{◌≡◌, refl}
use borrow.Author.Rules.{rules}
use denote.Enum.Declared.{tag_of}
use types.Run.{OneOf, miss}
use Rattle.phase.specs.contracts.Turn.{the_type}
use Rattle.phase.specs.Stage.{is_in}
use Rattle.phase.specs.Stage as Stage
use Rattle.phase.specs.declared.Phase.{Phase}
use Rattle.phase.specs.declared.Phase.TheVariants.{Idle, Country, Name, Chosen, Init, Auth, Eap, Sure, Live}
use Rattle.phase.specs.declared.Turn.{Turn}
use Rattle.phase.specs.declared.Turn.TheVariants.{First, Owed, Answered}
use Rattle.rules.specs.Phases.{is_first, last_reply, owed, turn_in}

-- outside EAP there is no turn
pub no_turn : (p : Phase) → is_in Stage.eap p ≡ false → turn_in p ≡ None
unfolding is_in turn_in
no_turn Idle e = refl
no_turn (Country f) e = refl
no_turn (Name f) e = refl
no_turn (Chosen a) e = refl
no_turn (Init a) e = refl
no_turn (Auth a) e = refl
no_turn (Eap a t) e = absurd (true≢false e)
no_turn (Sure a) e = refl
no_turn (Live a) e = refl

-- a turn that is owed has no last reply
pub unanswered : (t : Turn) → OneOf (0 ∷ 1 ∷ []) (tag_of the_type t) → last_reply (Some t) ≡ None
unfolding last_reply
unanswered (First i) k = refl
unanswered (Owed i) k = refl
unanswered (Answered i) k = absurd (miss (0 ∷ 1 ∷ []) 2 tt k)

-- the first reply was made where the turn is not the first
pub not_first : (t : Turn) → OneOf (1 ∷ 2 ∷ []) (tag_of the_type t) → is_first (Some t) ≡ false
unfolding is_first
not_first (First i) k = absurd (miss (1 ∷ 2 ∷ []) 0 tt k)
not_first (Owed i) k = refl
not_first (Answered i) k = refl

-- the identifier that a turn was told to owe
pub owes : {t u : Turn} {i j : ℕ} → t ≡ u → owed (Some u) ≡ Some i → j ≡ i → owed (Some t) ≡ Some j
owes told e k = rw (told, e, k)

-- nothing is shorter than one octet
pub none_short : (n : ℕ) → (n == 0) ≡ ltb n 1
none_short zero = refl
none_short (suc n) = search rules
