-- A tenant's answers depend on nothing but its own calls and everybody's opens and closes.
use Prim.Native.Nat.{ℕ, zero, suc, ◌≤◌}
use mathlib.Core.Bool.{Bool, true, false, ◌||◌, false≢true, true≢false}
use mathlib.Core.List.{List, [], ◌∷◌}
use mathlib.Core.Path.{◌≡◌, refl, sym, ap, ap₂, ◌∙◌, subst}
use native.Mathlib.Omega.{arith}
use borrow.Author.Tests.{eqb-true, eqb-false, eq-eqb, ne_eqb, lt-ltb}
use Rattle.octets.specs.Part.{zeros}
use Rattle.octets.specs.Refusal.{refusal}
use Rattle.octets.specs.Row.{keep, only}
use Rattle.octets.specs.Search.{all_of}
use Rattle.octets.proofs.Octets.{zeros_octets}
use Rattle.octets.proofs.Search.{and_left, and_right, either}
use Rattle.record.specs.Line.{Line}
use Rattle.table.specs.Slots.{is_open, line_at, pair_in, slot_line, slots_of}
use Rattle.table.specs.Table.{record_of, table_length}
use Rattle.table.proofs.Empty.{empty_sound}
use Rattle.table.proofs.Views.{open_found}
use Rattle.rules.specs.Answer.{Answer}
use Rattle.rules.specs.Call.{Event, Call, opening, closing, listing, timed, pair_of, tenant_of}
use Rattle.rules.specs.Claims.{Alike, Good}
use Rattle.rules.specs.Histories.{answers_to, counts, is_octets, is_tenant, opens_or_closes, remaining}
use Rattle.rules.specs.Life.{outcome}
use Rattle.rules.specs.Refusals.{refusals}
use Rattle.rules.specs.Run.{Act, change, Result, Step, applied, run, settled, step, step_of, timed_step}
use Rattle.rules.specs.View.{View, line_found, view_in}
use Rattle.rules.proofs.Accepted.{line_range, ready, timed_pair}
use Rattle.rules.proofs.Acts.{Ready, act_line, act_open, line_after, open_after}
use Rattle.rules.proofs.Refused.{no_row}
use Rattle.rules.proofs.Runs.{accepted, number, run_sound, table_left}
use Rattle.rules.proofs.Views.{same_closing, same_opening, same_view}

pair_low : (tenant line : ℕ) → 1 ≤ pair_of tenant line
unfolding pair_of
pair_low tenant line = omega arith

-- one call on two tables that are alike, with the same number and act
module _ (a : ℕ) (l m : List ℕ) (alike : Alike a l m) (c : Call) (octets : is_octets c ≡ true)
    (numbers : number c l ≡ number c m) (acts : (step_of c l).act ≡ (step_of c m).act) where
  abbrev act : Act
  act = (step_of c l).act

  ready_l : number c l ≡ 0 → Ready l act
  ready_l e = ready c l octets alike.left e

  ready_m : number c l ≡ 0 → Ready m act
  ready_m e = subst (λ (x : Act). Ready m x) (sym acts) (ready c m octets alike.right (sym numbers ∙ e))

  tables : number c l ≡ 0 → ((run c l).table ≡ applied act l) × ((run c m).table ≡ applied act m)
  tables e = (
    ap (λ (r : Result). r.table) (accepted c l e),
    ap (λ (r : Result). r.table) (accepted c m (sym numbers ∙ e)) ∙ ap (λ (x : Act). applied x m) (sym acts),
  )

  same_line : number c l ≡ 0 → (q : ℕ) → 1 ≤ q → line_at q (slots_of l) ≡ line_at q (slots_of m)
      → line_at q (slots_of (run c l).table) ≡ line_at q (slots_of (run c m).table)
  same_line e q low before =
      ap (λ (t : List ℕ). line_at q (slots_of t)) (tables e).0 ∙ act_line l alike.left act (ready_l e) q low
      ∙ ap (line_after act q) before
      ∙ sym (ap (λ (t : List ℕ). line_at q (slots_of t)) (tables e).1 ∙ act_line m alike.right act (ready_m e) q low)

  same_open : number c l ≡ 0 → (q : ℕ) → 1 ≤ q → is_open q (slots_of (run c l).table) ≡ is_open q (slots_of (run c m).table)
  same_open e q low =
      ap (λ (t : List ℕ). is_open q (slots_of t)) (tables e).0 ∙ act_open l alike.left act (ready_l e) q low
      ∙ ap (open_after act q) (alike.opened q low)
      ∙ sym (ap (λ (t : List ℕ). is_open q (slots_of t)) (tables e).1 ∙ act_open m alike.right act (ready_m e) q low)

  pub still_alike : Alike a (run c l).table (run c m).table
  still_alike =
      either (number c l) 0
      (λ e. record {
        left = run_sound c l octets alike.left;
        right = run_sound c m octets alike.right;
        lines = λ line h. same_line e (pair_of a line) (pair_low a line) (alike.lines line h);
        opened = same_open e;
      })
      (λ h.
      subst (λ (t : List ℕ). Alike a t (run c m).table) (sym (table_left c l h))
      (subst (λ (t : List ℕ). Alike a l t) (sym (table_left c m (λ e. h (numbers ∙ e)))) alike))

-- pairs of different tenants are different
apart : (a b k line : ℕ) → k ≤ 3 → line ≤ 3 → (b ≡ a → ⊥) → pair_of b line ≡ pair_of a k → ⊥
unfolding pair_of
apart a b k line h g other e = other (omega arith)

-- a line that is changed in its own place: every other line stays, and the same pairs are open
module _ (l : List ℕ) (good : Good l) (p : ℕ) (x : Line) (r : Ready l (change p x)) (q : ℕ) (low : 1 ≤ q) where
  line_stays : (p ≡ q → ⊥) → line_at q (slots_of (applied (change p x) l)) ≡ line_at q (slots_of l)
  unfolding line_after pair_in
  line_stays away = act_line l good (change p x) r q low ∙ rw (ne_eqb p q away)

  open_stays : is_open q (slots_of (applied (change p x) l)) ≡ is_open q (slots_of l)
  unfolding open_after pair_in slot_line
  open_stays = act_open l good (change p x) r q low ∙ either p q here there
    where
      here : p ≡ q → open_after (change p x) q (is_open q (slots_of l)) ≡ is_open q (slots_of l)
      here e = rw (eq-eqb p q e) (sym (ap (λ (k : ℕ). is_open k (slots_of l)) (sym e) ∙ open_found l p ∙ lt-ltb (record_of l p) 32 r.0))

      there : (p ≡ q → ⊥) → open_after (change p x) q (is_open q (slots_of l)) ≡ is_open q (slots_of l)
      there away = rw (ne_eqb p q away)

-- a call of another tenant that is neither open nor close leaves the table alike
module _ (a : ℕ) (l m : List ℕ) (alike : Alike a l m) where
  unchanged : (t : List ℕ) → t ≡ l → Alike a t m
  unchanged t e = subst (λ (k : List ℕ). Alike a k m) (sym e) alike

  module _ (tenant line time : ℕ) (e : Event) (octets : is_octets (timed tenant line time e) ≡ true) (other : tenant ≡ a → ⊥) where
    abbrev c : Call
    c = timed tenant line time e

    -- the call's own line afterwards
    abbrev after : Line
    after = (outcome e (line_found line time (view_in c l))).line

    taken : number c l ≡ 0 → Alike a (run c l).table m
    unfolding step_of step timed_step
    taken n =
        let good = alike.left in
        let p = pair_of tenant line in
        let r = ready c l octets good n in
        let in_range_lem = line_range tenant line (timed_pair tenant line time e (view_in c l) (no_row c (view_in c l) n)) in
        record {
          left = run_sound c l octets good;
          right = alike.right;
          lines =
              λ k h. ap (λ (x : Result). line_at (pair_of a k) (slots_of x.table)) (accepted c l n)
              ∙ line_stays l good p after r (pair_of a k) (pair_low a k) (apart a tenant k line (omega arith) in_range_lem other) ∙ alike.lines k h;
          opened =
              λ q low. ap (λ (x : Result). is_open q (slots_of x.table)) (accepted c l n) ∙ open_stays l good p after r q low ∙ alike.opened q low;
        }

    timed_other : Alike a (run c l).table m
    timed_other = either (number c l) 0 taken (λ h. unchanged (run c l).table (table_left c l h))

  listing_other : (tenant room : ℕ) → Alike a (run (listing tenant room) l).table m
  unfolding step_of step applied
  listing_other tenant room =
      let c = listing tenant room in
      either (number c l) 0 (λ n. unchanged (run c l).table (ap (λ (x : Result). x.table) (accepted c l n))) (λ h. unchanged (run c l).table (table_left c l h))

  pub other_stays : (c : Call) → is_octets c ≡ true → is_tenant a c ≡ false → opens_or_closes c ≡ false → Alike a (run c l).table m
  unfolding is_tenant tenant_of opens_or_closes
  other_stays (opening tenant line) octets other neither = absurd (true≢false neither)
  other_stays (closing tenant line) octets other neither = absurd (true≢false neither)
  other_stays (listing tenant room) octets other neither = listing_other tenant room
  other_stays (timed tenant line time e) octets other neither = timed_other tenant line time e octets (eqb-false tenant a other)

  -- a call of the tenant, or anybody's open or close, keeps two tables alike
  own_alike : (c : Call) → is_octets c ≡ true → tenant_of c ≡ a → Alike a (run c l).table (run c m).table
  unfolding step_of
  own_alike c octets e =
      let same = same_view a l m alike c e in
      still_alike a l m alike c octets (ap (λ (v : View). refusal (refusals c v)) same) (ap (λ (v : View). (step c v).act) same)

  pub shared_alike : (c : Call) → is_octets c ≡ true → opens_or_closes c ≡ true → Alike a (run c l).table (run c m).table
  unfolding opens_or_closes
  shared_alike (opening tenant line) octets e = let s = same_opening a l m alike tenant line in still_alike a l m alike (opening tenant line) octets s.0 s.1
  shared_alike (closing tenant line) octets e = let s = same_closing a l m alike tenant line in still_alike a l m alike (closing tenant line) octets s.0 s.1
  shared_alike (listing tenant room) octets e = absurd (false≢true e)
  shared_alike (timed tenant line time event) octets e = absurd (false≢true e)

  -- the tenant gets the same answer
  same_answer : (n : ℕ) (c : Call) (s : Step) → (settled n c s l).answer ≡ (settled n c s m).answer
  unfolding settled
  same_answer zero c s = refl
  same_answer (suc n) c s = refl

  own_answer : (c : Call) → tenant_of c ≡ a → (run c l).answer ≡ (run c m).answer
  unfolding run step_of
  own_answer c e =
      same_answer (number c l) c (step_of c l) ∙ ap (λ (v : View). (settled (refusal (refusals c v)) c (step c v) m).answer) (same_view a l m alike c e)

is_own : (a : ℕ) (c : Call) → is_tenant a c ≡ true → tenant_of c ≡ a
unfolding is_tenant
is_own a c e = eqb-true (tenant_of c) a e

pub empty_good : Good (zeros table_length)
empty_good = record { sound = empty_sound; octets = (zeros_octets table_length).octets }

-- a history gives a tenant the answers that what remains of it gives
module _ (a : ℕ) where
  pub purged : (h : List Call) → all_of is_octets h ≡ true → (l m : List ℕ) → Alike a l m → answers_to a h l ≡ answers_to a (remaining a h) m
  unfolding answers_to remaining only counts all_of keep
  purged [] octets l m alike = refl
  purged (c ∷ h) octets l m alike =
      go (is_tenant a c) (opens_or_closes c) refl refl (purged h (and_right (is_octets c) (all_of is_octets h) octets))
    where
      lent : is_octets c ≡ true
      lent = and_left (is_octets c) (all_of is_octets h) octets

      go : (t b : Bool) → is_tenant a c ≡ t → opens_or_closes c ≡ b → ((l m : List ℕ) → Alike a l m → answers_to a h l ≡ answers_to a (remaining a h) m)
          → keep t (run c l).answer (answers_to a h (run c l).table) ≡ answers_to a (keep (t || b) c (remaining a h)) m
      go true b f g rest =
          let own : tenant_of c ≡ a = is_own a c f in
          ap₂ (λ (x : Answer) (xs : List Answer). x ∷ xs) (own_answer a l m alike c own) (rest (run c l).table (run c m).table (own_alike a l m alike c lent own))
          ∙ sym (ap (λ (t : Bool). keep t (run c m).answer (answers_to a (remaining a h) (run c m).table)) f)
      go false true f g rest =
          rest (run c l).table (run c m).table (shared_alike a l m alike c lent g)
          ∙ sym (ap (λ (t : Bool). keep t (run c m).answer (answers_to a (remaining a h) (run c m).table)) f)
      go false false f g rest = rest (run c l).table m (other_stays a l m alike c lent f g)

  alike_self : (l : List ℕ) → Good l → Alike a l l
  alike_self l good = record { left = good; right = good; lines = λ k h. refl; opened = λ q low. refl }

  pub isolation_from : (g h : List Call) → all_of is_octets g ≡ true → all_of is_octets h ≡ true → remaining a g ≡ remaining a h
      → (l m : List ℕ) → Alike a l m → answers_to a g l ≡ answers_to a h m
  isolation_from g h lent-g lent-h same l m alike =
      purged g lent-g l m alike ∙ ap (λ (k : List Call). answers_to a k m) same ∙ sym (purged h lent-h m m (alike_self m alike.right))

  pub isolation : (g h : List Call) → all_of is_octets g ≡ true → all_of is_octets h ≡ true → remaining a g ≡ remaining a h
      → answers_to a g (zeros table_length) ≡ answers_to a h (zeros table_length)
  isolation g h lent-g lent-h same = isolation_from g h lent-g lent-h same (zeros table_length) (zeros table_length) (alike_self (zeros table_length) empty_good)
