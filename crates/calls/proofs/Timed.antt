-- What the calls that add a child or a hold return, by their steps.
use Rattle.std.specs.Prelude.{Option, None, Some, Result, Ok, Err, MatchOption, IsSomeAnd, option_copied, slice_get}
use Rattle.std.proofs.Common.{Bor}
use Rattle.std.proofs.lemmas.Option.{none-some, same_Some}
use Prim.Native.Nat.{ℕ, ◌*◌}
use mathlib.Core.Bool.{false}
use mathlib.Core.List.{List, [], ◌∷◌, ◌++◌}
use mathlib.Core.Path.{◌≡◌, refl, sym, ap, ◌∙◌}
use Rattle.octets.specs.Digits.{field}
use Rattle.octets.specs.Part.{Wrote}
use Rattle.address.specs.declared.Address.{Address}
use Rattle.address.specs.declared.End.{End}
use Rattle.address.specs.declared.Hold.{Hold}
use Rattle.children.specs.declared.Child.{Child}
use Rattle.holds.specs.Listed.{holds_of}
use Rattle.phase.specs.Chosen.{chosen}
use Rattle.phase.specs.Standing.{bare, standing}
use Rattle.phase.specs.declared.Standing.{Standing}
use Rattle.refusal.specs.declared.Refusal.{Refusal}
use Rattle.record.specs.Changes.{current, first_end, held_for, in_phase, unheld, with_children}
use Rattle.record.specs.Line.{Line, line_of}
use Rattle.record.specs.Octets.{line_from, record_length, record_octets}
use Rattle.records.specs.Stores.{GoesAt}
use Rattle.table.specs.Table.{slot}
use Rattle.rules.specs.Answer.{event_room, room_of}
use Rattle.rules.specs.Call.{Event, child_made, congestion, timed}
use Rattle.rules.specs.Refusals.{is_short, least_event_room, least_room}
use Rattle.rules.specs.Run.{run}
use Rattle.rules.specs.View.{fresh}
use Rattle.step.specs.Step.{Effect, effect, effect_in}
use Rattle.step.specs.declared.Done.{Done}
use Rattle.step.proofs.Bare.{address_or}
use Rattle.step.proofs.Views.{adding, bare_of, bare_tunnels, child_added, congested_address, congested_bare, tunnel_continues}
use Rattle.tunnel.specs.Made.{made_on}
use Rattle.frame.specs.Entering.{Passes}
use Rattle.frame.specs.Returned.{told}
use Rattle.frame.specs.declared.Entered.{Entered}
use Rattle.frame.proofs.Stores.{stored}
use Rattle.frame.proofs.Timed.{accepted, declined, gone, on_read}

-- the line that a call is about, behind its entry tests, read with its bare phase alone
module _ (tenant line time : ℕ) (l : List ℕ) (r : Entered) (passes : Passes r tenant line time false l) where
  abbrev own : Line
  own = line_from (slot l r.at)

  module _ {z : Line} (read : z ≡ unheld (bare own.phase) []) where
    module _ (child : Child) where
      abbrev making : Event
      making = child_made child.spi child.session

      made_short : is_short (timed tenant line time making) ≡ false
      unfolding is_short room_of least_room least_event_room event_room
      made_short = refl

      made_read : (s : Result Done Refusal) → made_on z s child own.children ≡ effect making time (with_children z own.children) → made_on z s child own.children ≡ effect making time (bare_tunnels own)
      unfolding unheld fresh in_phase with_children
      made_read s is = is ∙ ap (λ (y : Line). effect making time (with_children y own.children)) read

      -- a child that is not made
      pub unmade : (n : Refusal) → made_on z (Err n) child own.children ≡ effect making time (with_children z own.children) → told (Err n) [] [] l ≡ run (timed tenant line time making) l
      unmade n is =
          declined tenant line time making false l made_short r passes (adding (current time own) child) (bare_tunnels own) (child_added time r.pair l own child.spi child.session) _ n (made_read (Err n) is)

      -- a child that is made stands behind the others
      pub made : (d : Done) → made_on z (Ok d) child own.children ≡ effect making time (with_children z own.children) → {s : Standing} → s ≡ standing d.line.phase
          → {table : List ℕ} → GoesAt l r.at time s table (λ x. with_children x (x.children ++ child ∷ [])) → told (Ok d.action) [] [] table ≡ run (timed tenant line time making) l
      unfolding line_of in_phase with_children line_from current
      made d is stands goes =
          gone tenant line time making false l made_short r passes (adding (current time own) child) (bare_tunnels own) (child_added time r.pair l own child.spi child.session) _ d.action (made_read (Ok d) is)
          (tunnel_continues making time r.pair l own refl) (λ x. with_children x (x.children ++ child ∷ [])) refl stands goes

    module _ (authenticated timer : ℕ) where
      abbrev congesting : Event
      congesting = congestion authenticated timer

      congested_short : is_short (timed tenant line time congesting) ≡ false
      unfolding is_short room_of least_room least_event_room event_room
      congested_short = refl

      -- its address is held until the end of the step's hold
      abbrev held : Line → Line
      held x = held_for time (address_or (chosen own.phase)) (first_end x.holds) own

      congested_read : (s : Result Done Refusal) → effect_in z s [] [] ≡ effect congesting time z → effect_in (bare_of own) s [] [] ≡ effect congesting time (bare_of own)
      unfolding unheld fresh in_phase
      congested_read s is = on_read tenant line time congesting false l congested_short r passes [] [] read s is

      -- a line that is not congested
      pub uncongested : (n : Refusal) → effect_in z (Err n) [] [] ≡ effect congesting time z → told (Err n) [] [] l ≡ run (timed tenant line time congesting) l
      uncongested n is =
          declined tenant line time congesting false l congested_short r passes held (bare_of own) (congested_bare time r.pair l own authenticated timer) _ n (congested_read (Err n) is)

      -- a line that is released
      pub released : (d : Done) → effect_in z (Ok d) [] [] ≡ effect congesting time z → {end : Option End} → end ≡ first_end (holds_of d.line.holds) → {table : List ℕ}
          → ((a : Address) → chosen own.phase ≡ Some a → Wrote l (record_length * r.at) (record_octets (field (slot l r.at) 0 1) (held_for time a end own)) table)
          → told (Ok d.action) [] [] table ≡ run (timed tenant line time congesting) l
      unfolding line_of
      released d is ends wrote =
          let a = address_or (chosen own.phase) in
          let on = congested_read (Ok d) is in
          accepted tenant line time congesting false l congested_short r passes held (bare_of own) (congested_bare time r.pair l own authenticated timer) (line_of d.line) d.action on
          (ap (λ (o : Option End). held_for time a o own) (sym ends))
          (stored r l passes.stands _ (wrote a (congested_address time r.pair l own authenticated timer (sym (ap (λ (f : Effect). f.refusal) on)))))

-- the end of the first hold, where there is one
pub end_of_first : {post : Bor Hold → End → Type 0} (o : Option (Bor Hold)) (hs : List Hold) (r : Option End) → option_copied o ≡ slice_get hs 0 → MatchOption o (r ≡ None) (λ h. IsSomeAnd r (post h))
    → ((h : Bor Hold) (e : End) → post h e → e ≡ h.now.end) → r ≡ first_end hs
end_of_first None [] r copied none says = none
end_of_first None (h ∷ hs) r copied none says = absurd (none-some h copied)
end_of_first (Some x) [] r copied some says = absurd (none-some x.now (sym copied))
end_of_first (Some x) (h ∷ hs) None copied some says = absurd some
end_of_first (Some x) (h ∷ hs) (Some e) copied some says = ap Some (says x e some ∙ ap (λ (k : Hold). k.end) (same_Some x.now h copied))
