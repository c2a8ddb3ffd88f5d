-- A sound record whose line is kept without the holds that have ended, at another time and in another phase.
use Prim.Native.Nat.{ℕ, ◌≤◌, ◌<◌}
use mathlib.Core.Bool.{Bool, true}
use mathlib.Core.List.{List, [], ◌∷◌, ◌++◌}
use mathlib.Core.Path.{◌≡◌, refl, sym, ap, ◌∙◌}
use native.Mathlib.Omega.{arith}
use lib.ListN.{length, get_or}
use Rattle.octets.specs.Digits.{be, digits, field}
use Rattle.octets.specs.Part.{part, Wrote}
use Rattle.octets.specs.Row.{keep, only}
use Rattle.octets.specs.Search.{all_of}
use Rattle.octets.proofs.Octets.{each_octet}
use Rattle.octets.proofs.Parts.{then}
use Rattle.octets.proofs.Search.{and_left, and_right}
use Rattle.octets.proofs.Splices.{part_behind}
use Rattle.octets.proofs.Sublists.{only_length}
use Rattle.address.specs.declared.Hold.{Hold}
use Rattle.holds.specs.Holds.{ends_after, holds_from}
use Rattle.phase.specs.Phase.{phase_octets}
use Rattle.phase.specs.Standing.{Stood, restored}
use Rattle.phase.specs.declared.Phase.{Phase}
use Rattle.phase.specs.declared.Standing.{Standing}
use Rattle.record.specs.Changes.{Changes, Goes, current, in_force, in_phase, with_holds}
use Rattle.record.specs.Line.{Line}
use Rattle.record.specs.Octets.{holds_place, line_from, phase_place, record_length, record_octets, time_place}
use Rattle.record.specs.Sound.{is_record}
use Rattle.record.proofs.RoundTrip.{few_children, few_holds, phase_part, write_back}
use Rattle.record.proofs.Sounds.{sound_line}
use Rattle.record.proofs.Writing.{at_time, head_changed, over}

-- where all pass a test, those that pass are all
only_whole : {A : Type 0} (p : A → Bool) (l : List A) → all_of p l ≡ true → only p l ≡ l
unfolding all_of only keep
only_whole p [] h = refl
only_whole p (x ∷ l) h = rw (and_left (p x) (all_of p l) h) (ap (λ (m : _). x ∷ m) (only_whole p l (and_right (p x) (all_of p l) h)))

module _ (l : List ℕ) (sound : is_record l ≡ true) (t : ℕ) where
  abbrev x : Line
  x = line_from l

  abbrev pair : ℕ
  pair = field l 0 1

  -- a line that is kept has no more holds than before
  pub few_kept : length (current t x).holds ≤ 8
  unfolding current
  few_kept = omega (arith, only_length (ends_after t) x.holds, few_holds x (sound_line l sound))

  -- the time and the phase are written
  pub kept_in : (p : Phase) {k m : List ℕ} → k ≡ record_octets pair (in_force t x) → Wrote k time_place (be 4 t ++ phase_octets p) m
      → m ≡ record_octets pair (in_phase (current t x) p)
  unfolding at_time current in_force in_phase with_holds
  kept_in p is w = (over is w).wrote ∙ head_changed pair (in_force t x) t p few_kept

  -- the time is written, and where the phase stands
  pub stood_in : (s : Standing) {k₁ k₂ m : List ℕ} → k₁ ≡ record_octets pair (in_force t x) → Wrote k₁ time_place (be 4 t) k₂ → Stood k₂ phase_place s m
      → Goes l t s m (λ y. y)
  unfolding be digits in_force with_holds
  stood_in s {k₁} {k₂} is w stood q goes stands =
      let there : part k₂ 5 20 ≡ phase_octets x.phase =
      ap (λ (k : List ℕ). part k 5 20) w.wrote ∙ part_behind k₁ 1 (be 4 t) 5 20 (omega arith) ∙ ap (λ (k : List ℕ). part k 5 20) is ∙ phase_part pair (in_force t x) in
      kept_in (restored x.phase q) is (then w (stood x.phase q goes stands there) refl)

  -- the line that is kept is changed
  pub goes_changed : (s : Standing) {k m : List ℕ} (f : Line → Line) → Goes l t s k (λ y. y) → Changes k m f → Goes l t s m f
  unfolding current in_phase
  goes_changed s f kept change q goes stands =
      change pair (in_phase (current t x) (restored x.phase q)) few_kept (few_children x (sound_line l sound)) (kept q goes stands)

  module _ (octets : (i : ℕ) → get_or l i 0 < 256) (size : length l ≡ record_length) where
    written : l ≡ record_octets pair x
    written = sym (write_back l (each_octet l octets) size sound)

    -- no hold has ended
    pub none_ended : {n : ℕ} {r : Bool} → n ≡ field l 25 1 → r ≡ all_of (ends_after t) (holds_from l holds_place n) → r ≡ true → l ≡ record_octets pair (in_force t x)
    unfolding in_force line_from with_holds
    none_ended count is passed =
        let all : all_of (ends_after t) x.holds ≡ true = ap (λ (k : ℕ). all_of (ends_after t) (holds_from l holds_place k)) (sym count) ∙ sym is ∙ passed in
        written ∙ ap (λ (hs : List Hold). record_octets pair (with_holds x hs)) (sym (only_whole (ends_after t) x.holds all))

    -- those in force are written
    pub some_ended : {n : ℕ} {hs in_force_lem : List Hold} → n ≡ field l 25 1 → hs ≡ holds_from l holds_place n → in_force_lem ≡ only (ends_after t) hs → {m : List ℕ}
        → Changes l m (λ y. with_holds y in_force_lem) → m ≡ record_octets pair (in_force t x)
    unfolding in_force line_from
    some_ended count read stand change =
        change pair x (few_holds x (sound_line l sound)) (few_children x (sound_line l sound)) written
        ∙ ap (λ (hs : List Hold). record_octets pair (with_holds x hs)) (stand ∙ ap (only (ends_after t)) (read ∙ ap (holds_from l holds_place) count))
