-- A call changes no record but its own, and never the length of the table.
use Rattle.std.specs.Prelude.{Option, None, Some}
use Prim.Native.Nat.{ℕ}
use mathlib.Core.Bool.{true}
use mathlib.Core.List.{List}
use mathlib.Core.Path.{◌≡◌, refl, sym, ap, ◌∙◌}
use lib.ListN.{length}
use lib.Seq.{length-sets}
use Rattle.octets.proofs.Search.{either}
use Rattle.table.specs.Slots.{put, slot_octets}
use Rattle.table.specs.Table.{record_of, slot}
use Rattle.table.proofs.Stored as Stored
use Rattle.rules.specs.After.{own_record}
use Rattle.rules.specs.Call.{Call, opening, closing, listing, timed}
use Rattle.rules.specs.Claims.{Good}
use Rattle.rules.specs.Histories.{is_octets}
use Rattle.rules.specs.Run.{Act, stay, replace, Result, applied, run, step, step_of, timed_step}
use Rattle.rules.proofs.Accepted.{ready}
use Rattle.rules.proofs.Acts.{Ready}
use Rattle.rules.proofs.Runs.{accepted, number, table_left}

-- the record that an act changes
unfoldable record_in : Act → List ℕ → Option ℕ
record_in stay l = None
record_in (replace pair s) l = Some (record_of l pair)

own_is : (c : Call) (l : List ℕ) → record_in (step_of c l).act l ≡ own_record c l
unfolding record_in step_of step timed_step own_record
own_is (opening tenant line) l = refl
own_is (closing tenant line) l = refl
own_is (listing tenant room) l = refl
own_is (timed tenant line time e) l = refl

applied_others : (l : List ℕ) → Good l → (a : Act) → Ready l a → (j : ℕ) → (record_in a l ≡ Some j → ⊥) → slot (applied a l) j ≡ slot l j
unfolding record_in applied
applied_others l good stay r j apart = refl
applied_others l good (replace pair s) r j apart = Stored.put_others l pair s good.sound r.0 (Stored.storable s r.1) j (λ e. apart (ap Some (sym e)))

pub others_untouched : (c : Call) (l : List ℕ) → is_octets c ≡ true → Good l → (j : ℕ) → (own_record c l ≡ Some j → ⊥) → slot (run c l).table j ≡ slot l j
others_untouched c l octets good j apart =
    either (number c l) 0
    (λ e. ap (λ (r : Result). slot r.table j) (accepted c l e) ∙ applied_others l good (step_of c l).act (ready c l octets good e) j (λ q. apart (sym (own_is c l) ∙ q)))
    (λ h. ap (λ (t : List ℕ). slot t j) (table_left c l h))

-- a listing stores nothing
pub listing_leaves : (tenant room : ℕ) (l : List ℕ) → (run (listing tenant room) l).table ≡ l
unfolding step_of step applied
listing_leaves tenant room l =
    let c = listing tenant room in
    either (number c l) 0 (λ e. ap (λ (r : Result). r.table) (accepted c l e)) (table_left c l)

applied_length : (a : Act) (l : List ℕ) → length (applied a l) ≡ length l
unfolding applied put
applied_length stay l = refl
applied_length (replace pair s) l = length-sets l _ (slot_octets s)

pub length_kept : (c : Call) (l : List ℕ) → length (run c l).table ≡ length l
length_kept c l =
    either (number c l) 0 (λ e. ap (λ (r : Result). length r.table) (accepted c l e) ∙ applied_length (step_of c l).act l) (λ h. ap length (table_left c l h))
