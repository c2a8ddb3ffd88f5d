-- What an act does to a sound table: it stays sound, and which lines it has afterwards.
use Rattle.std.specs.Prelude.{Option, None, is_some}
use Prim.Native.Nat.{ℕ, ◌≤◌, ◌<◌}
use mathlib.Core.Bool.{Bool, true, false, cond, not, ◌||◌}
use mathlib.Core.List.{List}
use mathlib.Core.Path.{◌≡◌, refl, sym, ap, ◌∙◌, subst}
use native.Mathlib.Omega.{arith}
use lib.Dec.{eqb}
use borrow.Author.Tests.{eqb-true, eq-eqb, ne_eqb, lt-ltb, not-true}
use Rattle.octets.proofs.Search.{either}
use Rattle.record.specs.Line.{Line}
use Rattle.table.specs.Laws.{may_stand, slot_fits}
use Rattle.table.specs.Slots.{Slot, is_of, is_open, line_at, pair_in, replaced, slot_line, slots_of}
use Rattle.table.specs.Table.{record_of}
use Rattle.table.proofs.Lookups.{line_added, line_changed, line_dropped, line_other, open_line}
use Rattle.table.proofs.Stored.{storable, put_octets, put_slots, put_sound}
use Rattle.table.proofs.Views.{open_found, slots_once}
use Rattle.rules.specs.Claims.{Good}
use Rattle.rules.specs.Run.{Act, stay, replace, applied}
use Rattle.rules.specs.OnSlots.{applied_on}

-- the pair's record is found, the new slot fits a record and may stand there
abbrev pub Ready : List ℕ → Act → Type 0
Ready l stay = Unit {0}
Ready l (replace pair s) = (record_of l pair < 32) × (slot_fits s ≡ true) × (may_stand pair s (slots_of l) ≡ true)

module _ (l : List ℕ) (good : Good l) where
  pub applied_good : (a : Act) → Ready l a → Good (applied a l)
  unfolding applied
  applied_good stay r = good
  applied_good (replace pair s) r = record {
    sound = put_sound l pair s good.sound r.0 (storable s r.1) r.2;
    octets = put_octets l pair s good.octets;
  }

  pub applied_slots : (a : Act) → Ready l a → slots_of (applied a l) ≡ applied_on a (slots_of l)
  unfolding applied applied_on
  applied_slots stay r = refl
  applied_slots (replace pair s) r = put_slots l pair s good.sound r.0 (storable s r.1)

-- the line of a pair after an act, by its line before
unfoldable pub line_after : Act → ℕ → Option Line → Option Line
line_after stay q o = o
line_after (replace pair s) q o = cond (eqb (pair_in s) q) (slot_line s) (cond (eqb pair q) None o)

module _ (l : List ℕ) (good : Good l) (pair : ℕ) (s : Slot) (r : Ready l (replace pair s)) (q : ℕ) (low : 1 ≤ q) where
  abbrev ss : List Slot
  ss = slots_of l

  found : is_open pair ss ≡ true
  found = open_found l pair ∙ lt-ltb (record_of l pair) 32 r.0

  -- the new slot's own pair
  own_line_lem : pair_in s ≡ q → line_at q (replaced pair s ss) ≡ slot_line s
  unfolding may_stand is_of
  own_line_lem e = subst (λ (k : ℕ). line_at k (replaced pair s ss) ≡ slot_line s) e (go (is_of 0 s) (is_of pair s) refl refl r.2)
    where
      go : (a b : Bool) → is_of 0 s ≡ a → is_of pair s ≡ b → a || b || not (is_open (pair_in s) ss) ≡ true → line_at (pair_in s) (replaced pair s ss) ≡ slot_line s
      go true b f g h = let zero : pair_in s ≡ 0 = eqb-true (pair_in s) 0 f in absurd (omega arith)
      go false true f g h =
          let same : pair_in s ≡ pair = eqb-true (pair_in s) pair g in
          subst (λ (k : ℕ). line_at k (replaced pair s ss) ≡ slot_line s) (sym same) (line_changed pair s same ss found)
      go false false f g h = line_added pair s ss found (not-true (is_open (pair_in s) ss) h)

  replaced_line : line_at q (replaced pair s ss) ≡ line_after (replace pair s) q (line_at q ss)
  unfolding line_after
  replaced_line =
      either (pair_in s) q (λ e. own_line_lem e ∙ sym (ap (λ (b : Bool). cond b (slot_line s) (cond (eqb pair q) None (line_at q ss))) (eq-eqb (pair_in s) q e)))
      (λ apart. either pair q (λ e. gone apart e) (λ away. line_other pair s q away apart ss ∙ sym (rw (ne_eqb (pair_in s) q apart, ne_eqb pair q away))))
    where
      gone : (pair_in s ≡ q → ⊥) → pair ≡ q → line_at q (replaced pair s ss) ≡ cond (eqb (pair_in s) q) (slot_line s) (cond (eqb pair q) None (line_at q ss))
      gone apart e =
          subst (λ (k : ℕ). line_at k (replaced pair s ss) ≡ None) e (line_dropped pair s (omega arith) (λ f. apart (f ∙ e)) ss (slots_once l good.sound))
          ∙ sym (rw (ne_eqb (pair_in s) q apart, eq-eqb pair q e))

pub act_line : (l : List ℕ) → Good l → (a : Act) → Ready l a → (q : ℕ) → 1 ≤ q → line_at q (slots_of (applied a l)) ≡ line_after a q (line_at q (slots_of l))
unfolding line_after applied applied_on
act_line l good stay r q low = refl
act_line l good (replace pair s) r q low =
    ap (line_at q) (applied_slots l good (replace pair s) r) ∙ replaced_line l good pair s r q low

-- whether a pair is open after an act, by whether it was before
unfoldable pub open_after : Act → ℕ → Bool → Bool
open_after stay q b = b
open_after (replace pair s) q b = cond (eqb (pair_in s) q) (is_some (slot_line s)) (cond (eqb pair q) false b)

after_open : (a : Act) (q : ℕ) (o : Option Line) → is_some (line_after a q o) ≡ open_after a q (is_some o)
unfolding line_after open_after
after_open stay q o = refl
after_open (replace pair s) q o = go (eqb (pair_in s) q) (eqb pair q)
  where
    go : (b c : Bool) → is_some (cond b (slot_line s) (cond c None o)) ≡ cond b (is_some (slot_line s)) (cond c false (is_some o))
    go true c = refl
    go false true = refl
    go false false = refl

pub act_open : (l : List ℕ) → Good l → (a : Act) → Ready l a → (q : ℕ) → 1 ≤ q → is_open q (slots_of (applied a l)) ≡ open_after a q (is_open q (slots_of l))
act_open l good a r q low =
    open_line q low (slots_of (applied a l)) ∙ ap is_some (act_line l good a r q low) ∙ after_open a q (line_at q (slots_of l))
    ∙ ap (open_after a q) (sym (open_line q low (slots_of l)))
