-- What a call leaves of a sound table.
use Rattle.std.specs.Prelude.{Option, None, Some}
use Prim.Native.Nat.{ℕ, zero, suc, ◌≤◌}
use mathlib.Core.Bool.{Bool, true, cond}
use mathlib.Core.List.{List}
use mathlib.Core.Path.{◌≡◌, refl, sym, ap, ◌∙◌, subst}
use native.Mathlib.Nat.{zero-add}
use native.Mathlib.Omega.{arith}
use lib.Dec.{eqb}
use lib.ListN.{set}
use borrow.Author.Tests.{eq-eqb, ne_eqb, le-ltb}
use Rattle.octets.specs.Part.{padded, zeros}
use Rattle.octets.specs.Refusal.{refusal}
use Rattle.octets.specs.Row.{row}
use Rattle.octets.specs.Search.{all_of}
use Rattle.octets.proofs.Rows.{row_set}
use Rattle.octets.proofs.Search.{either}
use Rattle.record.specs.Octets.{record_length}
use Rattle.record.specs.Line.{Line}
use Rattle.table.specs.Slots.{Free, line_at, pair_in, slot_line, slot_octets, slots_of}
use Rattle.table.specs.Table.{is_table, record_of, slot}
use Rattle.table.proofs.Stored as Stored
use Rattle.rules.specs.Answer.{room_of}
use Rattle.rules.specs.Call.{Call, opening, closing, listing, lent_octets, pair_of, tenant_of}
use Rattle.rules.specs.Claims.{Good, number_given, line_in}
use Rattle.rules.specs.Histories.{is_octets}
use Rattle.rules.specs.Listing.{list_from}
use Rattle.rules.specs.Refusals.{event_refusals, is_early, is_full, is_no_pair, is_not_open, is_open_already, is_short, least_room, refusals}
use Rattle.rules.specs.Run.{Result, Step, applied, run, settled, step, step_of}
use Rattle.rules.specs.View.{View, fresh, own_line, view_in, view_of}
use Rattle.rules.specs.OnSlots.{run_on, settled_on}
use Rattle.rules.proofs.Accepted.{ready, tenant_range}
use Rattle.rules.proofs.Acts.{Ready, act_line, applied_good, applied_slots, line_after}
use Rattle.rules.proofs.Refused.{accepted_exactly, given_is}

module _ (c : Call) (l : List ℕ) where
  abbrev pub number : ℕ
  number = refusal (refusals c (view_in c l))

  -- an accepted call applies its act
  pub accepted : number ≡ 0 → run c l ≡ record { answer = (step_of c l).answer; table = applied (step_of c l).act l }
  unfolding run settled
  accepted e = ap (λ (n : ℕ). settled n c (step_of c l) l) e

  -- a refused one leaves the table
  pub table_left : (number ≡ 0 → ⊥) → (run c l).table ≡ l
  unfolding run settled
  table_left h = go number h
    where
      go : (n : ℕ) → (n ≡ 0 → ⊥) → (settled n c (step_of c l) l).table ≡ l
      go zero h = absurd (h refl)
      go (suc n) h = refl

module _ (c : Call) (l : List ℕ) (octets : is_octets c ≡ true) (good : Good l) where
  pub run_sound : Good (run c l).table
  run_sound =
      either (number c l) 0
      (λ e. subst (λ (r : Result). Good r.table) (sym (accepted c l e)) (applied_good l good (step_of c l).act (ready c l octets good e)))
      (λ h. subst (λ (t : List ℕ). Good t) (sym (table_left c l h)) good)

  -- the view of the slots of a sound table
  same_view : view_in c l ≡ view_of true (tenant_of c) (slots_of l)
  unfolding view_in
  same_view = ap (λ (b : Bool). view_of b (tenant_of c) (slots_of l)) good.sound

  both : (n : ℕ) (s : Step) → (n ≡ 0 → Ready l s.act)
      → ((settled n c s l).answer ≡ (settled_on n c s (slots_of l)).answer) × (slots_of (settled n c s l).table ≡ (settled_on n c s (slots_of l)).slots)
  unfolding settled settled_on
  both zero s r = (refl, applied_slots l good s.act (r refl))
  both (suc n) s r = (refl, refl)

  pub run_slots : ((run c l).answer ≡ (run_on c (slots_of l)).answer) × (slots_of (run c l).table ≡ (run_on c (slots_of l)).slots)
  unfolding run run_on step_of
  run_slots =
      subst (λ (v : View). ((run c l).answer ≡ (settled_on (refusal (refusals c v)) c (step c v) (slots_of l)).answer) × (slots_of (run c l).table ≡ (settled_on (refusal (refusals c v)) c (step c v) (slots_of l)).slots)) same_view
      (both (number c l) (step_of c l) (ready c l octets good))

-- closing
module _ (tenant line : ℕ) (l : List ℕ) (good : Good l) (e : number_given (closing tenant line) l ≡ 0) where
  abbrev c : Call
  c = closing tenant line

  closes : number c l ≡ 0
  closes = sym (given_is c l) ∙ e

  pub closed_zero : slot (run c l).table (record_of l (pair_of tenant line)) ≡ zeros record_length
  unfolding step_of step applied slot_octets is_octets lent_octets all_of
  closed_zero =
      let p = pair_of tenant line in
      let r = ready c l refl good closes in
      ap (λ (x : Result). slot x.table (record_of l p)) (accepted c l closes) ∙ Stored.put_here l p Free good.sound r.0 (Stored.storable Free r.1)

-- opening
module _ (tenant line : ℕ) (l : List ℕ) (good : Good l) (e : number_given (opening tenant line) l ≡ 0) where
  abbrev o : Call
  o = opening tenant line

  opens : number o l ≡ 0
  opens = sym (given_is o l) ∙ e

  pub taken_over_clean : line_in (run o l).table tenant line ≡ Some fresh
  unfolding step_of step line_after pair_in slot_line is_octets lent_octets all_of pair_of
  taken_over_clean =
      let p = pair_of tenant line in
      let r = ready o l refl good opens in
      ap (λ (x : Result). line_at p (slots_of x.table)) (accepted o l opens)
      ∙ act_line l good (step_of o l).act r p (omega arith)
      ∙ ap (λ (b : Bool). cond b (Some fresh) (cond (eqb 0 p) None (line_at p (slots_of l)))) (eq-eqb p p refl)

  -- the tenant's other lines stay
  others_stay : (k : ℕ) → (k ≡ line → ⊥) → own_line tenant (slots_of (run o l).table) k ≡ own_line tenant (slots_of l) k
  unfolding own_line step_of step line_after pair_in is_octets lent_octets all_of pair_of
  others_stay k apart =
      let q = pair_of tenant k in
      ap (λ (x : Result). line_at q (slots_of x.table)) (accepted o l opens)
      ∙ act_line l good (step_of o l).act (ready o l refl good opens) q (omega arith)
      ∙ rw (ne_eqb (pair_of tenant line) q (λ e. apart (omega arith)), ne_eqb 0 q (λ e. omega arith))

-- an accepted open has a tenant
opened_tenant : (tenant line : ℕ) (l : List ℕ) → number_given (opening tenant line) l ≡ 0 → tenant ≤ 15
unfolding is_no_pair
opened_tenant tenant line l e = tenant_range tenant line ((accepted_exactly (opening tenant line) l).0 e).row_2

-- an accepted listing shows the lines of its tenant
listed_lines : (tenant room : ℕ) (l : List ℕ) → is_table l ≡ true → tenant ≤ 15 → 1024 ≤ room
    → (run (listing tenant room) l).answer.buffer ≡ padded room (list_from 0 (row (own_line tenant (slots_of l)) 0 4))
unfolding run settled step_of step refusal refusals is_no_pair is_short room_of least_room is_open_already is_not_open is_full is_early event_refusals view_in tenant_of view_of
listed_lines tenant room l sound small long = rw (sound, le-ltb 15 tenant small, le-ltb room 1024 long)

pub taken_over_listed : (tenant line room : ℕ) (l : List ℕ) → Good l → number_given (opening tenant line) l ≡ 0 → 1024 ≤ room
    → (run (listing tenant room) (run (opening tenant line) l).table).answer.buffer
    ≡ padded room (list_from 0 (set (row (own_line tenant (slots_of l)) 0 4) line (Some fresh)))
unfolding own_line is_octets lent_octets all_of
taken_over_listed tenant line room l good e long =
    let t = (run (opening tenant line) l).table in
    listed_lines tenant room t (run_sound (opening tenant line) l refl good).sound (opened_tenant tenant line l e) long
    ∙ ap (λ (xs : List (Option Line)). padded room (list_from 0 xs))
    (row_set (own_line tenant (slots_of l)) (own_line tenant (slots_of t)) line (Some fresh) (others_stay tenant line l good e) (taken_over_clean tenant line l good e) 0 4 line (zero-add line))
