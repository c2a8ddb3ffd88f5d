-- A line that isn't live goes into another phase.
use Rattle.std.specs.Prelude.{Option, None, Some}
use mathlib.Core.Bool.{true, false, ◌||◌}
use mathlib.Core.List.{map}
use mathlib.Core.Path.{◌≡◌, refl, sym, ap, ◌∙◌}
use lib.Dec.{leb}
use lib.ListN.{length}
use Rattle.octets.proofs.Search.{or_other, or_true}
use Rattle.address.specs.Address.{address_in}
use Rattle.address.specs.declared.Address.{Address}
use Rattle.addresses.specs.Laws.{address_storable}
use Rattle.phase.specs.Chosen.{chosen}
use Rattle.phase.specs.Laws.{phase_storable}
use Rattle.phase.specs.Phase.{phase_fits}
use Rattle.phase.specs.Stage.{is_in}
use Rattle.phase.specs.Stage as Stage
use Rattle.phase.specs.declared.Phase.{Phase}
use Rattle.phase.specs.declared.Phase.TheVariants.{Idle, Init, Auth, Sure, Live}
use Rattle.record.specs.Changes.{in_phase}
use Rattle.record.specs.Line.{Line}
use Rattle.record.specs.Sound.{chosen_free}
use Rattle.rules.specs.Life.{onward}
use Rattle.rules.proofs.Phases.{chosen_busy, chosen_storable}
use Rattle.rules.proofs.Valid.{ChildrenValid, PhaseValid, Valid}

-- phases that keep an address
pub record Carries (f : Address → Phase) : Type 0 where
  pub fits : (a : Address) → phase_fits (f a) ≡ true
  pub storable : (a : Address) → address_storable a ≡ true → phase_storable (f a) ≡ true
  pub same : (a : Address) → chosen (f a) ≡ Some a

-- the phases that keep nothing but an address
pub init_carries : Carries Init
unfolding phase_fits phase_storable chosen
init_carries = record { fits = λ a. refl; storable = λ a h. h; same = λ a. refl }

pub auth_carries : Carries Auth
unfolding phase_fits phase_storable chosen
auth_carries = record { fits = λ a. refl; storable = λ a h. h; same = λ a. refl }

pub sure_carries : Carries Sure
unfolding phase_fits phase_storable chosen
sure_carries = record { fits = λ a. refl; storable = λ a h. h; same = λ a. refl }

pub live_carries : Carries Live
unfolding phase_fits phase_storable chosen
live_carries = record { fits = λ a. refl; storable = λ a h. h; same = λ a. refl }

module _ (x : Line) (v : Valid x) (calm : is_in Stage.live x.phase ≡ false) where
  -- it has no children
  childless : leb (length x.children) 0 ≡ true
  childless = or_other (is_in Stage.live x.phase) (leb (length x.children) 0) v.children_valid.on_live calm

  -- so that its children are valid in every phase
  pub children_stay : (p : Phase) → ChildrenValid p x.children
  children_stay p =
      let c = v.children_valid in
      record { fit = c.fit; storable = c.storable; few = c.few; on_live = or_true (is_in Stage.live p) (leb (length x.children) 0) childless; differ = c.differ }

  -- a phase that leaves room for the holds and keeps no held address
  pub moves : (p : Phase) → PhaseValid p → is_in Stage.idle p || leb (length x.holds) 7 ≡ true → chosen_free (chosen p) (map address_in x.holds) ≡ true
      → Valid (in_phase x p)
  unfolding in_phase
  moves p q room free =
      let h = v.holds_valid in
      record {
        small = v.small;
        phase_valid = q;
        children_valid = children_stay p;
        holds_valid = record { few = h.few; room = room; differ = h.differ; free = free; late = h.late; storable = h.storable };
      }

  -- every line that isn't live may go idle
  pub rests : Valid (in_phase x Idle)
  unfolding phase_fits phase_storable is_in chosen_free chosen
  rests = moves Idle (record { fits = refl; storable = refl }) refl refl

  -- a line that isn't idle has room for one hold more
  pub room_left : is_in Stage.idle x.phase ≡ false → leb (length x.holds) 7 ≡ true
  room_left busy = or_other (is_in Stage.idle x.phase) (leb (length x.holds) 7) v.holds_valid.room busy

  -- the chosen address goes on into another phase
  module _ (f : Address → Phase) (c : Carries f) where
    carried : (o : Option Address) → chosen x.phase ≡ o → Valid (in_phase x (onward f o))
    unfolding onward
    carried None e = rests
    carried (Some a) e =
        let storable = c.storable a (chosen_storable x.phase a e v.phase_valid.storable) in
        let room = or_true (is_in Stage.idle (f a)) (leb (length x.holds) 7) (room_left (chosen_busy x.phase a e)) in
        let free = ap (λ (o : Option Address). chosen_free o (map address_in x.holds)) (c.same a ∙ sym e) ∙ v.holds_valid.free in
        moves (f a) (record { fits = c.fits a; storable = storable }) room free

    pub goes_on : Valid (in_phase x (onward f (chosen x.phase)))
    goes_on = carried (chosen x.phase) refl
