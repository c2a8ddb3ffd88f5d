-- What the rules see of a phase whose address and place facts are blank, and what an event that leaves both alone makes of such a phase.
use Rattle.std.specs.Prelude.{Option, None, Some}
use Prim.Native.Nat.{ℕ, ◌≤◌}
use mathlib.Core.Bool.{Bool, true, false, false≢true}
use mathlib.Core.List.{List, [], ◌∷◌, ◌++◌, map}
use mathlib.Core.Path.{◌≡◌, refl, ap, ◌∙◌}
use native.Mathlib.Omega.{arith}
use lib.Dec.{eqb}
use lib.ListN.{length}
use Rattle.address.specs.Address.{held_addresses}
use Rattle.address.specs.declared.Address.{Address}
use Rattle.address.specs.declared.Hold.{Hold}
use Rattle.eap.specs.declared.Packet.{Packet}
use Rattle.gateway.specs.Gateway.{choose}
use Rattle.phase.specs.Chosen.{chosen}
use Rattle.phase.specs.Stage.{is_in, stage_number, stage_of}
use Rattle.phase.specs.Stage as Stage
use Rattle.phase.specs.Standing.{Continues, bare, bare_facts, ends, keeps, nowhere, placed, restored}
use Rattle.phase.specs.declared.Phase.{Phase}
use Rattle.phase.specs.declared.Phase.TheVariants.{Idle, Country, Name, Chosen, Init, Auth, Eap, Sure, Live}
use Rattle.phase.specs.declared.Turn.TheVariants.{First, Owed, Answered}
use Rattle.place.specs.declared.Facts.{Facts}
use Rattle.record.specs.Changes.{first_end, hold_until, in_phase, with_holds}
use Rattle.record.specs.Line.{Line}
use Rattle.timer.specs.declared.Timer.{Timer}
use Rattle.rules.specs.Life.{Outcome, address_answered, becomes, chosen_hold, congested, ended, finished, goes, onward, packet_taken, replied, timer_hold}
use Rattle.rules.specs.Life as Life
use Rattle.rules.specs.Phases.{facts_in, turn_in, underway}
use Rattle.rules.specs.Refusals.{is_due}
use Rattle.rules.specs.declared.Action.{Action}
use Rattle.rules.proofs.Goes.{found_goes, onto, phased}

-- an address and place facts, where they are there, made blank
unfoldable pub blank : Option Address → Option Address
blank None = None
blank (Some a) = Some nowhere

unfoldable pub blank_facts : Option Facts → Option Facts
blank_facts None = None
blank_facts (Some f) = Some (bare_facts f.version)

-- the address that is there, or the blank one
unfoldable pub address_or : Option Address → Address
address_or None = nowhere
address_or (Some a) = a

-- what a bare phase has of the whole one
pub record Bared (p : Phase) : Type 0 where
  pub stage : stage_of (bare p) ≡ stage_of p
  pub turn : turn_in (bare p) ≡ turn_in p
  pub address : chosen (bare p) ≡ blank (chosen p)
  pub facts : facts_in (bare p) ≡ blank_facts (facts_in p)

pub bared : (p : Phase) → Bared p
unfolding bare turn_in chosen blank facts_in blank_facts
bared Idle = record { stage = refl; turn = refl; address = refl; facts = refl }
bared (Country f) = record { stage = refl; turn = refl; address = refl; facts = refl }
bared (Name f) = record { stage = refl; turn = refl; address = refl; facts = refl }
bared (Chosen a) = record { stage = refl; turn = refl; address = refl; facts = refl }
bared (Init a) = record { stage = refl; turn = refl; address = refl; facts = refl }
bared (Auth a) = record { stage = refl; turn = refl; address = refl; facts = refl }
bared (Eap a t) = record { stage = refl; turn = refl; address = refl; facts = refl }
bared (Sure a) = record { stage = refl; turn = refl; address = refl; facts = refl }
bared (Live a) = record { stage = refl; turn = refl; address = refl; facts = refl }

-- a phase underway has an address
pub underway_address : (p : Phase) → underway p ≡ true → chosen p ≡ Some (address_or (chosen p))
unfolding underway is_in chosen address_or
underway_address Idle h = absurd (false≢true h)
underway_address (Country f) h = absurd (false≢true h)
underway_address (Name f) h = absurd (false≢true h)
underway_address (Chosen a) h = refl
underway_address (Init a) h = refl
underway_address (Auth a) h = refl
underway_address (Eap a t) h = refl
underway_address (Sure a) h = refl
underway_address (Live a) h = refl

-- q, made of the bare phase of p, stands for r, made of p: p goes on to q, and q is restored to r
pub record For (p r q : Phase) : Type 0 where
  pub continues : Continues p q
  pub restores : restored p q ≡ r

module _ (p : Phase) where
  -- the tests on a phase give the same on the bare one
  pub bare_in : (s : Stage.Stage) → is_in s (bare p) ≡ is_in s p
  unfolding is_in
  bare_in s = ap (λ (t : Stage.Stage). eqb (stage_number t) (stage_number s)) (bared p).stage

  pub bare_underway : underway (bare p) ≡ underway p
  unfolding underway
  bare_underway = rw (bare_in Stage.auth, bare_in Stage.eap, bare_in Stage.sure)

  pub bare_ended : ended (bare p) ≡ ended p
  unfolding ended
  bare_ended = rw (bare_in Stage.eap)

  -- a phase may end, or its address goes on into another
  pub idle_for : For p Idle Idle
  unfolding restored
  idle_for = record { continues = ends; restores = refl }

  pub onward_for : (f : Address → Phase) → ((b : Address) → chosen (f b) ≡ Some b) → ((b : Address) → restored p (f b) ≡ placed f b (chosen p))
      → For p (onward f (chosen p)) (onward f (chosen (bare p)))
  unfolding onward blank placed
  onward_for f has restores = rw (bared p).address (go (chosen p) refl)
    where
      go : (o : Option Address) → chosen p ≡ o → For p (onward f o) (onward f (blank o))
      go None e = idle_for
      go (Some a) e = record { continues = keeps e (has nowhere); restores = restores nowhere ∙ ap (placed f nowhere) e }

-- the line x in the phase of another, restored to its own
abbrev pub restoring : Line → Line → Line
restoring x z = in_phase x (restored x.phase z.phase)

-- an outcome o on the line x and another, b, on a line in its bare phase: they say the same, the line of b is put onto x, and the phase of x goes on to that of b
pub record Moves (x : Line) (put : Line → Line) (o b : Outcome) : Type 0 where
  pub says : o ≡ onto put b
  pub continues : Continues x.phase b.line.phase

module _ (x y : Line) where
  -- the other line in the bare phase
  abbrev seen : Line
  seen = in_phase y (bare x.phase)

  -- an outcome that changes the phase alone
  pub changes : {r q : Phase} → For x.phase r q → (a : Action) (part written : List ℕ)
      → Moves x (restoring x) (record { line = in_phase x r; action = a; part = part; written = written }) (record { line = in_phase seen q; action = a; part = part; written = written })
  unfolding in_phase
  changes f a part written = record { says = rw f.restores; continues = f.continues }

  pub packet_moves : (packet : List ℕ) (k : Option Packet) → Moves x (restoring x) (packet_taken x packet k) (packet_taken seen packet k)
  unfolding packet_taken Life.keeps goes in_phase chosen restored
  packet_moves packet (Some (Packet.Start i)) = changes (onward_for _ (λ a. Eap a (First i)) (λ b. refl) (λ b. refl)) _ _ _
  packet_moves packet (Some (Packet.NasRequest i at n)) = changes (onward_for _ (λ a. Eap a (Owed i)) (λ b. refl) (λ b. refl)) _ _ _
  packet_moves packet (Some (Packet.Success i)) = changes (onward_for _ Sure (λ b. refl) (λ b. refl)) _ _ _
  packet_moves packet (Some (Packet.NasResponse i p m at n)) = changes (idle_for _) _ _ _
  packet_moves packet (Some (Packet.Stop i)) = changes (idle_for _) _ _ _
  packet_moves packet None = changes (idle_for _) _ _ _

  pub replied_moves : (parameters nas : List ℕ) (o : Option ℕ) → Moves x (restoring x) (replied x parameters nas o) (replied seen parameters nas o)
  unfolding replied goes in_phase chosen restored
  replied_moves parameters nas None = changes (idle_for _) _ _ _
  replied_moves parameters nas (Some i) = changes (onward_for _ (λ a. Eap a (Answered i)) (λ b. refl) (λ b. refl)) _ _ _

  pub finished_moves : (b : Bool) → Moves x (restoring x) (finished x b) (finished seen b)
  unfolding finished Life.keeps goes in_phase chosen restored
  finished_moves true = changes (onward_for _ Live (λ b. refl) (λ b. refl)) _ _ _
  finished_moves false = changes (idle_for _) _ _ _

  -- the address answer looks at the local IP version and the holds
  pub answer_goes : (o : Option Facts) (list : List Address) → address_answered x o list ≡ onto (phased x) (address_answered (with_holds seen x.holds) (blank_facts o) list)
  unfolding address_answered goes in_phase with_holds blank_facts
  answer_goes None list = refl
  answer_goes (Some f) list = found_goes x (with_holds seen x.holds) (choose f.version (held_addresses x.holds) list)

-- a packet is due in the bare phase where it is in the whole one
pub bare_due : (k : Option Packet) (p : Phase) → is_due k (bare p) ≡ is_due k p
unfolding is_due
bare_due (Some (Packet.Start i)) p = bare_in p Stage.auth
bare_due (Some (Packet.NasRequest i at n)) p = rw (bared p).turn
bare_due (Some (Packet.Success i)) p = rw (bared p).turn
bare_due (Some (Packet.NasResponse i q m at n)) p = refl
bare_due (Some (Packet.Stop i)) p = refl
bare_due None p = refl

-- the same holds of another address
unfoldable pub renamed : Address → List Hold → List Hold
renamed a = map (λ (h : Hold). record { address = a; end = h.end })

-- the hold that a timer makes of the chosen address, by the one that it makes of a blank one
chosen_renamed : (time : ℕ) (t : Timer) (o : Option Address) → chosen_hold time t o ≡ renamed (address_or o) (chosen_hold time t (blank o))
unfolding chosen_hold timer_hold renamed address_or blank
chosen_renamed time t None = refl
chosen_renamed time Timer.None (Some a) = refl
chosen_renamed time (Timer.Seconds n) (Some a) = refl
chosen_renamed time Timer.Deactivated (Some a) = refl

-- a timer makes one hold at most
one_hold : (time : ℕ) (t : Timer) (o : Option Address) → length (chosen_hold time t o) ≤ 1
unfolding chosen_hold timer_hold
one_hold time t None = omega arith
one_hold time Timer.None (Some a) = omega arith
one_hold time (Timer.Seconds n) (Some a) = omega arith
one_hold time Timer.Deactivated (Some a) = omega arith

module _ (x : Line) where
  -- a line of which only the time and the bare phase are known
  abbrev pub bare_line : Line
  bare_line = record { time = x.time; phase = bare x.phase; holds = []; children = [] }

  -- the line x made idle, its address held as a blank one is on z
  abbrev pub holding : Line → Line
  holding z = with_holds (in_phase x Idle) (x.holds ++ renamed (address_or (chosen x.phase)) z.holds)

  pub congested_goes : (t : Timer) → becomes (congested x t) (Action.Released (ended x.phase)) ≡ onto holding (becomes (congested bare_line t) (Action.Released (ended (bare x.phase))))
  unfolding congested in_phase with_holds
  congested_goes t = rw (bare_ended x.phase, (bared x.phase).address, ← chosen_renamed x.time t (chosen x.phase))

  pub congested_one : (t : Timer) → length (congested bare_line t).holds ≤ 1
  unfolding congested
  congested_one t = one_hold x.time t (chosen (bare x.phase))

-- one hold at most has the end of the first
pub renamed_first : (a : Address) (hs : List Hold) → length hs ≤ 1 → renamed a hs ≡ hold_until a (first_end hs)
unfolding renamed
renamed_first a [] one = refl
renamed_first a (h ∷ []) one = refl
renamed_first a (h ∷ g ∷ hs) one = absurd (omega arith)
