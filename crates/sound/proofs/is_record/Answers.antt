-- `sound::is_record` meets its contract: one test after another.
use Prim.Native.Nat.{ℕ}
use mathlib.Core.Bool.{Bool}
use mathlib.Core.List.{List}
use mathlib.Core.Path.{◌≡◌, sym, ap, ap₂, ◌∙◌}
use Rattle.octets.specs.Digits.{field}
use Rattle.record.specs.Branch.{apart, counts_fit, Comparable}
use Rattle.record.specs.Sound.{is_record}
use Rattle.record.proofs.Sounds.{all_passed, miscounted, no_children, no_holds, no_pair, no_phase, ChildrenAre, HoldsAre}
use Rattle.sound.proofs.is_record.Goals as goal

-- the tests of the counts that were read are those of the counts in the octets
module _ (l : List ℕ) {m n : ℕ} (holds : m ≡ field l 25 1) (children : n ≡ field l 26 1) {r t : Bool} (said : r ≡ t) where
  counts : (stage : ℕ) → r ≡ counts_fit stage m n → counts_fit stage (field l 25 1) (field l 26 1) ≡ t
  counts stage e = sym (ap₂ (counts_fit stage) holds children) ∙ sym e ∙ said

  tunnels : r ≡ ChildrenAre l n → ChildrenAre l (field l 26 1) ≡ t
  tunnels e = sym (ap (ChildrenAre l) children) ∙ sym e ∙ said

  standing : (time : ℕ) → r ≡ HoldsAre l time m → HoldsAre l time (field l 25 1) ≡ t
  standing time e = sym (ap (HoldsAre l time) holds) ∙ sym e ∙ said

pub returns-then-pair : goal.returns-then-pair
returns-then-pair c = no_pair _ _ c.get-pair.ensures.0 c.if-pair.true

pub returns-then-not-is_phase : goal.returns-then-not-is_phase
returns-then-not-is_phase c = no_phase _ (sym c.is_phase.ensures ∙ c.if-not-is_phase.true)

pub returns-then-not-counts_fit : goal.returns-then-not-counts_fit
returns-then-not-counts_fit c =
    miscounted _ _ c.get.ensures.0 (sym c.is_phase.ensures ∙ c.if-not-is_phase.false)
    (counts _ c.get-m.ensures.0 c.get-n.ensures.0 (c.if-not-counts_fit.true) _ c.counts_fit.ensures)

pub returns-then-not-are_sound : goal.returns-then-not-are_sound
returns-then-not-are_sound c =
    no_children _ (tunnels _ c.get-m.ensures.0 c.get-n.ensures.0 (c.if-not-are_sound.true) c.are_sound.ensures)

pub returns-then-not-stand_in_force : goal.returns-then-not-stand_in_force
returns-then-not-stand_in_force c =
    no_holds _ _ c.get-2.ensures.0 (standing _ c.get-m.ensures.0 c.get-n.ensures.0 (c.if-not-stand_in_force.true) _ c.stand_in_force.ensures)

pub are_apart-requires : goal.are_apart-requires
are_apart-requires c =
    let passed : Comparable c.args.b.now c.get-m.result × (apart c.args.b.now c.get-m.result ≡ is_record c.args.b.now) = all_passed _ _ c.get-pair.ensures.0 c.if-pair.false _ c.get.ensures.0
    (sym c.is_phase.ensures ∙ c.if-not-is_phase.false)
    (counts _ c.get-m.ensures.0 c.get-n.ensures.0 c.if-not-counts_fit.false _ c.counts_fit.ensures)
    _ c.get-2.ensures.0 (standing _ c.get-m.ensures.0 c.get-n.ensures.0 c.if-not-stand_in_force.false _ c.stand_in_force.ensures)
    (tunnels _ c.get-m.ensures.0 c.get-n.ensures.0 c.if-not-are_sound.false c.are_sound.ensures) _ c.get-m.ensures.0 in
    (c.requires, passed.0)

pub returns : goal.returns
returns c =
    let passed : Comparable c.args.b.now c.get-m.result × (apart c.args.b.now c.get-m.result ≡ is_record c.args.b.now) = all_passed _ _ c.get-pair.ensures.0 c.if-pair.false _ c.get.ensures.0
    (sym c.is_phase.ensures ∙ c.if-not-is_phase.false)
    (counts _ c.get-m.ensures.0 c.get-n.ensures.0 c.if-not-counts_fit.false _ c.counts_fit.ensures)
    _ c.get-2.ensures.0 (standing _ c.get-m.ensures.0 c.get-n.ensures.0 c.if-not-stand_in_force.false _ c.stand_in_force.ensures)
    (tunnels _ c.get-m.ensures.0 c.get-n.ensures.0 c.if-not-are_sound.false c.are_sound.ensures) _ c.get-m.ensures.0 in
    c.are_apart.ensures ∙ passed.1
