-- Where a phase stands: its octets are its number, what it keeps, and how far its EAP session is, and a phase that goes on keeps what it has.
use Rattle.std.specs.Prelude.{Some}
use Prim.Native.Nat.{ℕ, ◌+◌, ◌≤◌}
use mathlib.Core.List.{List, ◌++◌, append_assoc}
use mathlib.Core.Path.{◌≡◌, refl, sym, ap, ap₂, ◌∙◌}
use native.Mathlib.Omega.{arith}
use lib.ListN.{length, drop, take, take-append-drop}
use lib.Seq.{drop-drop, sets-eq}
use Rattle.octets.specs.Digits.{be, digits}
use Rattle.octets.specs.Part.{part, zeros, Wrote}
use Rattle.octets.proofs.Parts.{both, then, wrote_length}
use Rattle.octets.proofs.Splices.{part_behind}
use Rattle.octets.proofs.Stands.{before, behind, from_part, to_part}
use Rattle.address.specs.declared.Address.{Address}
use Rattle.addresses.specs.Addresses.{address_octets}
use Rattle.addresses.proofs.Widths.{address_wide}
use Rattle.place.specs.declared.Facts.{Facts}
use Rattle.phase.specs.Chosen.{chosen}
use Rattle.phase.specs.Facts.{facts_octets}
use Rattle.phase.specs.Phase.{asking_octets, having_octets, phase_octets, turn_octets}
use Rattle.phase.specs.Standing.{Continues, Stood, bare, ends, keeps, placed, restored, standing, stays, turned}
use Rattle.phase.specs.declared.Phase.{Phase}
use Rattle.phase.specs.declared.Phase.TheVariants.{Idle, Country, Name, Chosen, Init, Auth, Eap, Sure, Live}
use Rattle.phase.specs.declared.Standing.{Standing}
use Rattle.phase.specs.declared.Turn.{Turn}
use Rattle.phase.specs.declared.Turn.TheVariants.{First, Owed, Answered}
use Rattle.phase.proofs.Writes.{facts_length, three}
use Rattle.std.proofs.lemmas.Option.{none-some}

-- a bare phase stands as the whole one does, and is restored to it
standing_bare : (p : Phase) → standing (bare p) ≡ standing p
unfolding standing bare
standing_bare Idle = refl
standing_bare _ = refl

pub restored_bare : (p : Phase) → restored p (bare p) ≡ p
unfolding restored bare placed chosen
restored_bare Idle = refl
restored_bare _ = refl

-- only the idle phase has the number 0
none_turned : (t : Turn) → (turned t).stage ≡ 0 → ⊥
unfolding turned
none_turned (First i) e = omega arith
none_turned (Owed i) e = omega arith
none_turned (Answered i) e = omega arith

idle_alone : (q : Phase) → (standing q).stage ≡ 0 → q ≡ Idle
unfolding standing
idle_alone Idle e = refl
idle_alone (Eap a t) e = absurd (none_turned t e)
idle_alone _ e = absurd (omega arith)

-- the 17 octets of what a phase keeps
unfoldable kept : Phase → List ℕ
kept Idle = zeros 17
kept (Country f) = facts_octets f ++ zeros 8
kept (Name f) = facts_octets f ++ zeros 8
kept (Chosen a) = address_octets a
kept (Init a) = address_octets a
kept (Auth a) = address_octets a
kept (Eap a t) = address_octets a
kept (Sure a) = address_octets a
kept (Live a) = address_octets a

facts_kept : (f : Facts) → length (facts_octets f ++ zeros 8) ≡ 17
unfolding zeros
facts_kept f = both (facts_octets f) (zeros 8) 9 8 (facts_length f) refl

kept_length : (p : Phase) → length (kept p) ≡ 17
unfolding kept zeros
kept_length Idle = refl
kept_length (Country f) = facts_kept f
kept_length (Name f) = facts_kept f
kept_length (Chosen a) = address_wide a
kept_length (Init a) = address_wide a
kept_length (Auth a) = address_wide a
kept_length (Eap a t) = address_wide a
kept_length (Sure a) = address_wide a
kept_length (Live a) = address_wide a

-- octets around what a phase keeps
abbrev around : Standing → List ℕ → List ℕ
around s vs = be 1 s.stage ++ vs ++ (be 1 s.turn ++ be 1 s.identifier)

asking_around : (n : ℕ) (f : Facts) → asking_octets n f ≡ around (record { stage = n; turn = 0; identifier = 0 }) (facts_octets f ++ zeros 8)
unfolding asking_octets be digits zeros
asking_around n f = ap (λ (l : List ℕ). be 1 n ++ l) (sym (append_assoc (facts_octets f) (zeros 8) (zeros 2)))

turn_around : (a : Address) (t : Turn) → be 1 6 ++ address_octets a ++ turn_octets t ≡ around (turned t) (address_octets a)
unfolding turned turn_octets
turn_around a (First i) = refl
turn_around a (Owed i) = refl
turn_around a (Answered i) = refl

phase_around : (p : Phase) → phase_octets p ≡ around (standing p) (kept p)
unfolding phase_octets having_octets standing kept be digits zeros
phase_around Idle = refl
phase_around (Country f) = asking_around 1 f
phase_around (Name f) = asking_around 2 f
phase_around (Chosen a) = refl
phase_around (Init a) = refl
phase_around (Auth a) = refl
phase_around (Eap a t) = turn_around a t
phase_around (Sure a) = refl
phase_around (Live a) = refl

-- what a phase with an address keeps
address_kept : (p : Phase) (a : Address) → chosen p ≡ Some a → kept p ≡ address_octets a
unfolding kept chosen
address_kept Idle a e = absurd (none-some _ e)
address_kept (Country f) a e = absurd (none-some _ e)
address_kept (Name f) a e = absurd (none-some _ e)
address_kept _ a e = ap address_octets (cc)

-- a phase with an address, restored from one, has the address of that one and stands as it does
record Restored (r q : Phase) (a : Address) : Type 0 where
  has : chosen r ≡ Some a
  stood : standing r ≡ standing q

restored_is : (p q : Phase) (a b : Address) → chosen p ≡ Some a → chosen q ≡ Some b → Restored (restored p q) q a
unfolding restored placed chosen standing
restored_is p Idle a b e f = absurd (none-some _ f)
restored_is p (Country g) a b e f = absurd (none-some _ f)
restored_is p (Name g) a b e f = absurd (none-some _ f)
restored_is p _ a b e f = rw e (record { has = refl; stood = refl })

-- a phase that goes on without ending keeps what it has and stands as the other does
continues : {p q : Phase} → Continues p q → ((standing q).stage ≡ 0 → ⊥) → phase_octets (restored p q) ≡ around (standing q) (kept p)
unfolding standing
continues ends busy = absurd (busy refl)
continues (stays {p}) busy = ap phase_octets (restored_bare p) ∙ phase_around p ∙ ap (λ (s : Standing). around s (kept p)) (sym (standing_bare p))
continues (keeps {p} {q} {a} {b} e f) busy =
    let r = restored p q in
    let is = restored_is p q a b e f in
    phase_around r ∙ ap₂ around is.stood (address_kept r a is.has ∙ sym (address_kept p a e))

-- octets that stand there already are written
same_wrote : (l : List ℕ) (at n : ℕ) (vs : List ℕ) → length vs ≡ n → at + n ≤ length l → part l at n ≡ vs → Wrote l at vs l
same_wrote l at n vs size fits e =
    let end : at + length vs ≡ at + n = ap (λ (k : ℕ). at + k) size in
    record {
      wrote = sym
          (sets-eq vs l at (omega (arith, end)) ∙ append_assoc (take at l) vs (drop (at + length vs) l)
          ∙ ap (λ (m : List ℕ). take at l ++ m) (ap (λ (k : ℕ). vs ++ drop k l) end ∙ ap (λ (m : List ℕ). vs ++ m) (sym (drop-drop n at l)) ∙ sym (from_part l at n vs e).stands)
          ∙ take-append-drop at l);
    }

-- the octets around what a phase keeps are written
module _ (l : List ℕ) (at : ℕ) (fits : at + 20 ≤ length l) (s₀ s : Standing) (vs : List ℕ) (size : length vs ≡ 17) (is : part l at 20 ≡ around s₀ vs) where
  stood_here : part l (at + 1) 17 ≡ vs
  unfolding be digits
  stood_here =
      let end = be 1 s₀.turn ++ be 1 s₀.identifier in
      to_part vs 17 size (behind (be 1 s₀.stage) vs 1 refl (before (be 1 s₀.stage ++ vs) end (from_part l at 20 (around s₀ vs) is)))

  around_wrote : {l₁ l₂ l₃ : List ℕ} → Wrote l at (be 1 s.stage) l₁ → Wrote l₁ (at + 18) (be 1 s.turn) l₂ → Wrote l₂ (at + 19) (be 1 s.identifier) l₃
      → Wrote l at (around s vs) l₃
  unfolding be digits
  around_wrote {l₁} w₁ w₂ w₃ =
      let still : part l₁ (at + 1) 17 ≡ vs = ap (λ (m : List ℕ). part m (at + 1) 17) w₁.wrote ∙ part_behind l at (be 1 s.stage) (at + 1) 17 (omega arith) ∙ stood_here in
      three 1 17 refl size w₁ (same_wrote l₁ (at + 1) 17 vs size (omega (arith, wrote_length w₁)) still) (then w₂ w₃ (omega arith))

-- where a phase stands, once its octets are written
module _ (l : List ℕ) (at : ℕ) (s : Standing) where
  pub stood_idle : s.stage ≡ 0 → {m : List ℕ} → Wrote l at (be 20 0) m → Stood l at s m
  unfolding be digits zeros phase_octets restored
  stood_idle idle w p q goes is there = rw (idle_alone q (ap (λ (x : Standing). x.stage) is ∙ idle)) w

  pub stood_on : at + 20 ≤ length l → (s.stage ≡ 0 → ⊥) → {l₁ l₂ m : List ℕ} → Wrote l at (be 1 s.stage) l₁ → Wrote l₁ (at + 18) (be 1 s.turn) l₂
      → Wrote l₂ (at + 19) (be 1 s.identifier) m → Stood l at s m
  stood_on fits busy w₁ w₂ w₃ p q goes is there =
      let octets : phase_octets (restored p q) ≡ around s (kept p) = continues goes (rw is busy) ∙ ap (λ (x : Standing). around x (kept p)) is in
      rw octets (around_wrote l at fits (standing p) s (kept p) (kept_length p) (there ∙ phase_around p) w₁ w₂ w₃)
