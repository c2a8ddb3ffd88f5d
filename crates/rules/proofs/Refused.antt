-- The number that a call gives, and what a refused call leaves.
use Prim.Native.Nat.{ℕ, zero, suc, ◌≤◌}
use mathlib.Core.Bool.{Bool, true, false, not, ◌||◌}
use mathlib.Core.List.{List}
use mathlib.Core.Path.{◌≡◌, refl, sym, ap, ◌∙◌}
use native.Mathlib.Omega.{arith}
use Rattle.octets.specs.Part.{zeros}
use Rattle.octets.specs.Refusal.{Refusal, refusal, Rising}
use Rattle.octets.proofs.Refusals as Refusals
use Rattle.table.specs.Table.{is_table}
use Rattle.rules.specs.Answer.{refused, room_of}
use Rattle.rules.specs.Call.{Call, opening, closing, listing, timed}
use Rattle.rules.specs.Claims.{Left, count_of, number_given, GivenExactly, GivenRows, NoRow, is_past_last, on_line}
use Rattle.rules.specs.Refusals.{refusals_of, event_refusals, has_no_room, is_allowed, is_held_full, is_malformed, is_out_of_range, is_spi_taken, refusals}
use Rattle.rules.specs.Run.{Step, answer_of, bare, run, settled, step, step_of, timed_step}
use Rattle.rules.specs.View.{View, view_of, view_in}
use Rattle.rules.proofs.Rows.{AllFail, condition_of, given_holds, holds_given, none_given, none_holds, rises, rising, within}

-- an accepted call answers 0
answers_0 : (c : Call) (v : View) → (step c v).answer.refusal ≡ 0
unfolding step bare timed_step answer_of
answers_0 (opening tenant line) v = refl
answers_0 (closing tenant line) v = refl
answers_0 (listing tenant room) v = refl
answers_0 (timed tenant line time e) v = refl

refused_number : (n : ℕ) (c : Call) → (refused n c).refusal ≡ n
unfolding refused
refused_number n (opening tenant line) = refl
refused_number n (closing tenant line) = refl
refused_number n (listing tenant room) = refl
refused_number n (timed tenant line time e) = refl

settled_number : (n : ℕ) (c : Call) (s : Step) (l : List ℕ) → s.answer.refusal ≡ 0 → (settled n c s l).answer.refusal ≡ n
unfolding settled
settled_number zero c s l e = e
settled_number (suc n) c s l e = refused_number (suc n) c

-- the number given is that of the list of refusals
pub given_is : (c : Call) (l : List ℕ) → number_given c l ≡ refusal (refusals c (view_in c l))
unfolding number_given run step_of
given_is c l = settled_number (refusal (refusals c (view_in c l))) c (step_of c l) l (answers_0 c (view_in c l))

-- what a refused call answers
module _ (n : ℕ) (l : List ℕ) where
  refused_left : (c : Call) → Left c l (record { answer = refused n c; table = l })
  unfolding refused room_of count_of zeros
  refused_left (opening tenant line) = record { table = refl; numbers = refl; part = refl; buffer = refl }
  refused_left (closing tenant line) = record { table = refl; numbers = refl; part = refl; buffer = refl }
  refused_left (listing tenant room) = record { table = refl; numbers = refl; part = refl; buffer = refl }
  refused_left (timed tenant line time e) = record { table = refl; numbers = refl; part = refl; buffer = refl }

settled_left : (n : ℕ) (c : Call) (s : Step) (l : List ℕ) → (n ≡ 0 → ⊥) → Left c l (settled n c s l)
unfolding settled
settled_left zero c s l h = absurd (h refl)
settled_left (suc n) c s l h = refused_left (suc n) l c

pub refusal_leaves : (c : Call) (l : List ℕ) → (number_given c l ≡ 0 → ⊥) → Left c l (run c l)
unfolding run
refusal_leaves c l h = settled_left (refusal (refusals c (view_in c l))) c (step_of c l) l (λ e. h (given_is c l ∙ e))

-- the numbers of every list of refusals rise from 1 to 13
in_order : (c : Call) (v : View) → rises 0 (refusals c v) ≡ true
unfolding refusals event_refusals refusals_of rises
in_order (opening tenant line) v = refl
in_order (closing tenant line) v = refl
in_order (listing tenant room) v = refl
in_order (timed tenant line time e) v = refl

pub refusal_range : (c : Call) (l : List ℕ) → number_given c l ≤ 13
refusal_range c l = rw (given_is c l) (within 0 (refusals c (view_in c l)) (in_order c (view_in c l))).1

-- each number stands in the list with the condition of its row
record Table (c : Call) (v : View) : Type 0 where
  row_8 : condition_of 8 (refusals c v) ≡ is_past_last c || on_line is_out_of_range c v
  row_9 : condition_of 9 (refusals c v) ≡ on_line (λ e x. is_malformed e) c v
  row_10 : condition_of 10 (refusals c v) ≡ on_line (λ e x. not (is_allowed e x)) c v
  row_11 : condition_of 11 (refusals c v) ≡ on_line is_spi_taken c v
  row_12 : condition_of 12 (refusals c v) ≡ on_line has_no_room c v
  row_13 : condition_of 13 (refusals c v) ≡ on_line is_held_full c v

table : (c : Call) (v : View) → Table c v
unfolding refusals event_refusals refusals_of condition_of is_past_last on_line
table (opening tenant line) v = record { row_8 = refl; row_9 = refl; row_10 = refl; row_11 = refl; row_12 = refl; row_13 = refl }
table (closing tenant line) v = record { row_8 = refl; row_9 = refl; row_10 = refl; row_11 = refl; row_12 = refl; row_13 = refl }
table (listing tenant room) v = record { row_8 = refl; row_9 = refl; row_10 = refl; row_11 = refl; row_12 = refl; row_13 = refl }
table (timed tenant line time e) v = record { row_8 = refl; row_9 = refl; row_10 = refl; row_11 = refl; row_12 = refl; row_13 = refl }

module _ (c : Call) (l : List ℕ) where
  abbrev v : View
  v = view_in c l

  abbrev rs : List Refusal
  rs = refusals c v

  abbrev up : Rising 0 rs
  up = rising 0 rs (in_order c v)

  -- a number is given exactly by the condition with which it stands in the list
  exactly : (n : ℕ) → 1 ≤ n → (row : Bool) → condition_of n rs ≡ row → GivenExactly n c l row
  exactly n some row is = record {
    only_then = λ e. sym is ∙ given_holds 0 rs up n some (sym (given_is c l) ∙ e);
    none_lower = λ e m low a. let most = (Refusals.refusal_lowest 0 rs up m a).1 in let given = given_is c l in omega arith;
    always_then = λ h. rw (given_is c l) (holds_given 0 rs up n (is ∙ h));
  }

  pub refused_exactly : GivenRows c l v
  unfolding refusals condition_of view_in view_of
  refused_exactly =
      let t = table c v in
      record {
        given_1 = exactly 1 (omega arith) _ refl;
        given_2 = exactly 2 (omega arith) _ refl;
        given_3 = exactly 3 (omega arith) _ refl;
        given_4 = exactly 4 (omega arith) _ refl;
        given_5 = exactly 5 (omega arith) _ refl;
        given_6 = exactly 6 (omega arith) _ refl;
        given_7 = exactly 7 (omega arith) _ refl;
        given_8 = exactly 8 (omega arith) _ t.row_8;
        given_9 = exactly 9 (omega arith) _ t.row_9;
        given_10 = exactly 10 (omega arith) _ t.row_10;
        given_11 = exactly 11 (omega arith) _ t.row_11;
        given_12 = exactly 12 (omega arith) _ t.row_12;
        given_13 = exactly 13 (omega arith) _ t.row_13;
      }

  pub unsound_refused : is_table l ≡ false → number_given c l ≡ 1
  unsound_refused h =
      let given = refused_exactly.given_1.always_then (ap not h) in
      omega arith

-- no condition holds where no number is given
pub no_row : (c : Call) (v : View) → refusal (refusals c v) ≡ 0 → NoRow c v
unfolding refusals condition_of
no_row c v e =
    let t = table c v in
    let fails = none_holds 0 (refusals c v) (rising 0 (refusals c v) (in_order c v)) e in
    record {
      row_1 = fails 1;
      row_2 = fails 2;
      row_3 = fails 3;
      row_4 = fails 4;
      row_5 = fails 5;
      row_6 = fails 6;
      row_7 = fails 7;
      row_8 = sym t.row_8 ∙ fails 8;
      row_9 = sym t.row_9 ∙ fails 9;
      row_10 = sym t.row_10 ∙ fails 10;
      row_11 = sym t.row_11 ∙ fails 11;
      row_12 = sym t.row_12 ∙ fails 12;
      row_13 = sym t.row_13 ∙ fails 13;
    }

-- and none is given where no condition holds
pub event_fails : (c : Call) (v : View) → NoRow c v → AllFail (event_refusals c v)
unfolding event_refusals refusals_of is_past_last on_line
event_fails (opening tenant line) v r = tt
event_fails (closing tenant line) v r = tt
event_fails (listing tenant room) v r = tt
event_fails (timed tenant line time e) v r = (r.row_8, (r.row_9, (r.row_10, (r.row_11, (r.row_12, (r.row_13, tt))))))

no_number : (c : Call) (v : View) → NoRow c v → refusal (refusals c v) ≡ 0
unfolding refusals
no_number c v r =
    none_given (refusals c v) (r.row_1, (r.row_2, (r.row_3, (r.row_4, (r.row_5, (r.row_6, (r.row_7, event_fails c v r)))))))

pub accepted_exactly : (c : Call) (l : List ℕ) → (number_given c l ≡ 0 → NoRow c (view_in c l)) × (NoRow c (view_in c l) → number_given c l ≡ 0)
accepted_exactly c l = (λ e. no_row c (view_in c l) (sym (given_is c l) ∙ e), λ r. given_is c l ∙ no_number c (view_in c l) r)
