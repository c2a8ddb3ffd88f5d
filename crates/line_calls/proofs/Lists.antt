-- What the listing returns.
use Rattle.std.specs.Prelude.{Ok, Err}
use Prim.Native.Nat.{ℕ}
use mathlib.Core.Bool.{Bool, true, false, ◌||◌}
use mathlib.Core.List.{List, []}
use mathlib.Core.Path.{◌≡◌, refl, sym, ◌∙◌}
use lib.Dec.{ltb}
use lib.ListN.{length}
use Rattle.octets.specs.Part.{padded, zeros}
use Rattle.octets.specs.Refusal.{refusal}
use Rattle.refusal.specs.Numbers.{number_of}
use Rattle.refusal.specs.declared.Refusal.{Refusal}
use Rattle.table.specs.Table.{is_table}
use Rattle.rules.specs.Answer.{refused, room_of}
use Rattle.rules.specs.Call.{Call, listing, listing_room, tenant_of}
use Rattle.rules.specs.Refusals.{event_refusals, is_above_last, is_early, is_full, is_no_pair, is_not_open, is_open_already, is_short, least_room, refusals}
use Rattle.rules.specs.Run.{applied, run, step, step_of}
use Rattle.rules.specs.View.{View, view_in, view_of}
use Rattle.rules.specs.declared.Action.TheVariants as Action
use Rattle.rules.proofs.Runs.{accepted}
use Rattle.listing.specs.Listed.{listing_of}
use Rattle.frame.specs.Entering.{first_refusals}
use Rattle.frame.proofs.Entries.{in_range_lem, is_long_lem, is_sound, refused_at_first, refused_by}
use Rattle.frame.specs.Returned.{returned, told}

-- a listing has no line, so that its pair is that of the line 0
no_line : (tenant room : ℕ) → is_no_pair (listing tenant room) ≡ is_above_last tenant 0
unfolding is_no_pair is_above_last
no_line tenant room = go (ltb 15 tenant)
  where
    go : (b : Bool) → b ≡ b || false
    go true = refl
    go false = refl

module _ (l : List ℕ) (tenant room : ℕ) where
  abbrev lists : Call
  lists = listing tenant room

  -- the buffer is too short
  abbrev short : Bool
  short = ltb room listing_room

  pub list_at_first : (r : Refusal) → number_of r ≡ refusal (first_refusals l tenant 0 short) → {buffer : List ℕ} → buffer ≡ zeros room → told (Err r) [] buffer l ≡ run lists l
  unfolding returned refused is_short room_of least_room
  list_at_first r number cleared =
      rw cleared (sym (refused_by lists l r (refused_at_first l tenant 0 short r number lists (no_line tenant room) refl)))

  module _ (none_given : 0 ≡ refusal (first_refusals l tenant 0 short)) where
    sound : is_table l ≡ true
    sound = is_sound l tenant 0 short none_given

    pair_is : is_no_pair lists ≡ false
    pair_is = no_line tenant room ∙ in_range_lem l tenant 0 short none_given

    long : is_short lists ≡ false
    unfolding is_short room_of least_room
    long = is_long_lem l tenant 0 short none_given

    goes : (v : View) → v.sound ≡ true → refusal (refusals lists v) ≡ 0
    unfolding refusal refusals is_open_already is_not_open is_full is_early event_refusals
    goes v is = rw (is, pair_is, long)

    pub listed : {buffer : List ℕ} → buffer ≡ padded room (listing_of tenant l) → {count : ℕ} → count ≡ length (listing_of tenant l) → told (Ok (Action.Listed count)) [] buffer l ≡ run lists l
    unfolding returned step_of step applied view_in view_of tenant_of listing_of
    listed written counted = rw (written, counted) (sym (accepted lists l (goes (view_in lists l) sound)))
