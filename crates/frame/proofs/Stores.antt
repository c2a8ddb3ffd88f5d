-- What is stored of the line that a step leaves.
use Prim.Native.Nat.{ℕ, zero, suc, ◌*◌}
use mathlib.Core.List.{List}
use mathlib.Core.Path.{◌≡◌, refl, ap₂, ◌∙◌}
use lib.Seq.{sets}
use Rattle.octets.specs.Digits.{field}
use Rattle.octets.specs.Part.{Wrote}
use Rattle.refusal.specs.Numbers.{number_of}
use Rattle.refusal.specs.declared.Refusal.{Refusal}
use Rattle.record.specs.Line.{Line}
use Rattle.record.specs.Octets.{record_length, record_octets}
use Rattle.table.specs.Slots.{put, slot_octets}
use Rattle.table.specs.Table.{slot}
use Rattle.step.specs.Laws.{stored_by}
use Rattle.frame.specs.Entering.{Stands}
use Rattle.frame.specs.declared.Entered.{Entered}
use Rattle.frame.proofs.Entries.{numbered}

-- nothing where it is refused
pub kept : (r : Refusal) (pair : ℕ) (x : Line) (l : List ℕ) → l ≡ stored_by (number_of r) pair x l
unfolding stored_by
kept r pair x l = go (number_of r) (numbered r)
  where
    go : (n : ℕ) → (n ≡ 0 → ⊥) → l ≡ stored_by n pair x l
    go zero some = absurd (some refl)
    go (suc n) some = refl

-- the pair's record where it is accepted
pub stored : (r : Entered) (l : List ℕ) → Stands r l → (x : Line) {m : List ℕ} → Wrote l (record_length * r.at) (record_octets (field (slot l r.at) 0 1) x) m
    → m ≡ stored_by 0 r.pair x l
unfolding stored_by put slot_octets
stored r l stands x w =
    w.wrote ∙ ap₂ (λ (k p : ℕ). sets l (record_length * k) (record_octets p x)) stands.at_is stands.pair_is
