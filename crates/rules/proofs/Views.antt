-- Tables that are alike to a tenant: what its calls see of them, and what anybody's open or close sees.
use Rattle.std.specs.Prelude.{Option, None, is_some}
use Prim.Native.Nat.{ℕ, suc, ◌≤◌, ◌<◌}
use mathlib.Core.Bool.{Bool, true, false, not}
use mathlib.Core.List.{List, [], ◌∷◌}
use mathlib.Core.Path.{◌≡◌, refl, sym, ap, ◌∙◌, subst}
use native.Mathlib.Nat.{zero-add}
use native.Mathlib.Omega.{arith}
use lib.Dec.{ltb}
use Rattle.octets.specs.Refusal.{◌when◌, refusal}
use Rattle.octets.proofs.Counts.{count_same}
use Rattle.octets.proofs.Rows.{get_d_past, get_d_row, row_same}
use Rattle.octets.proofs.Search.{lower}
use Rattle.record.specs.Line.{Line}
use Rattle.table.specs.Slots.{is_open, is_taken, open_pairs, slots_of}
use Rattle.table.specs.Table.{is_table, record_count}
use Rattle.table.proofs.Lookups.{open_line}
use Rattle.table.proofs.Views.{room}
use Rattle.rules.specs.Call.{Call, opening, closing, pair_of, tenant_of}
use Rattle.rules.specs.Claims.{Alike}
use Rattle.rules.specs.Refusals.{event_refusals, is_early, is_full, is_no_pair, is_not_open, is_open_already, is_short, refusals}
use Rattle.rules.specs.Run.{step, step_of}
use Rattle.rules.specs.View.{View, line_seen, own_line, view_in, view_of}
use Rattle.rules.proofs.Runs.{number}

view_equal : {s t f g : Bool} {xs ys : List (Option Line)} → s ≡ t → f ≡ g → xs ≡ ys
    → ◌≡◌ {A = View} (record { sound = s; free = f; lines = xs }) (record { sound = t; free = g; lines = ys })
view_equal p q r = λ i. record { sound = p i; free = q i; lines = r i }

-- a call sees a free record exactly where fewer pairs are open than there are records
pub room_exactly : (c : Call) (l : List ℕ) → is_table l ≡ true → (view_in c l).free ≡ ltb (open_pairs (slots_of l)) record_count
unfolding view_in view_of
room_exactly c l sound = room l sound

module _ (a : ℕ) (l m : List ℕ) (alike : Alike a l m) where
  same_sound : is_table l ≡ is_table m
  same_sound = alike.left.sound ∙ sym alike.right.sound

  -- room follows from the open pairs
  same_free : is_open 0 (slots_of l) ≡ is_open 0 (slots_of m)
  unfolding open_pairs is_taken
  same_free =
      room l alike.left.sound
      ∙ ap (λ (k : ℕ). ltb k 32) (count_same 64 (is_taken (slots_of l)) (is_taken (slots_of m)) (λ k h. alike.opened (suc k) (omega arith)))
      ∙ sym (room m alike.right.sound)

  -- the tenant's own view
  own_view : view_of (is_table l) a (slots_of l) ≡ view_of (is_table m) a (slots_of m)
  unfolding view_of own_line
  own_view = view_equal same_sound same_free (row_same (own_line a (slots_of m)) (own_line a (slots_of l)) 0 4 (λ i h m. alike.lines i (omega arith)))

  pub same_view : (c : Call) → tenant_of c ≡ a → view_in c l ≡ view_in c m
  unfolding view_in
  same_view c e = subst (λ (t : ℕ). view_of (is_table l) t (slots_of l) ≡ view_of (is_table m) t (slots_of m)) (sym e) own_view

  -- whether any tenant's line is open
  module _ (tenant line : ℕ) where
    abbrev has : List ℕ → Bool
    has t = is_some (line_seen (view_of (is_table t) tenant (slots_of t)) line)

    there : (t : List ℕ) → line < 4 → has t ≡ is_open (pair_of tenant line) (slots_of t)
    unfolding line_seen view_of own_line pair_of
    there t h =
        ap is_some (get_d_row (own_line tenant (slots_of t)) None 0 4 line h ∙ ap (own_line tenant (slots_of t)) (zero-add line))
        ∙ sym (open_line (pair_of tenant line) (omega arith) (slots_of t))

    past : (t : List ℕ) → 4 ≤ line → has t ≡ false
    unfolding line_seen view_of
    past t h = ap is_some (get_d_past (own_line tenant (slots_of t)) None 0 4 line h)

    same_there : has l ≡ has m
    unfolding pair_of
    same_there =
        lower line 4 (λ h. there l h ∙ alike.opened (pair_of tenant line) (omega arith) ∙ sym (there m h)) (λ h. past l h ∙ sym (past m h))

    pub same_opening : (number (opening tenant line) l ≡ number (opening tenant line) m) × ((step_of (opening tenant line) l).act ≡ (step_of (opening tenant line) m).act)
    unfolding step_of step view_in tenant_of view_of refusals is_open_already is_not_open is_full is_early event_refusals
    same_opening =
        let c = opening tenant line in
        (λ i. refusal ((1 when not (same_sound i)) ∷ (2 when is_no_pair c) ∷ (3 when is_short c) ∷ (4 when same_there i) ∷ (5 when false) ∷ (6 when not (same_free i)) ∷ (7 when false) ∷ []), refl)

    pub same_closing : (number (closing tenant line) l ≡ number (closing tenant line) m) × ((step_of (closing tenant line) l).act ≡ (step_of (closing tenant line) m).act)
    unfolding step_of step view_in tenant_of view_of refusals is_open_already is_not_open is_full is_early event_refusals
    same_closing =
        let c = closing tenant line in
        (λ i. refusal ((1 when not (same_sound i)) ∷ (2 when is_no_pair c) ∷ (3 when is_short c) ∷ (4 when false) ∷ (5 when not (same_there i)) ∷ (6 when false) ∷ (7 when false) ∷ []), refl)
