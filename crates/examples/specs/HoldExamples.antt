-- Histories of holds, each under the sentence that it shows, and the holds that histories leave.
use Rattle.std.specs.Prelude.{false, ℕ, zero, suc, ◌+◌, List, [], ◌∷◌, ◌++◌, map, ◌≡◌, refl, Option, None, Some}
use Rattle.octets.specs.Row.{joined}
use Rattle.address.specs.Address.{high, low, version_of}
use Rattle.address.specs.declared.Address.TheVariants.{V4, V6}
use Rattle.address.specs.declared.End.TheVariants.{At, Never}
use Rattle.address.specs.declared.Hold.{Hold}
use Rattle.holds.specs.Holds.{end_number}
use Rattle.record.specs.Line.{Line}
use Rattle.table.specs.Slots.{line_at}
use Rattle.rules.specs.Answer.{Answer}
use Rattle.rules.specs.declared.Action.TheVariants as Action
use Rattle.rules.specs.Call.{start, begin, init, error, congestion, give_up, Call, opening, closing, timed, pair_of, start_numbers}
use Rattle.examples.specs.Cases.{acts, at_home, at_home6, congest, declines, done, node, node6, node_at, now, own, to_auth, to_idle, writes}
use Rattle.examples.specs.Computed.{Example, evaluated, got, said, slots_after}
use Rattle.selection.specs.declared.Stop.TheVariants as At

-- a start by `node`, where its address is held and where it is free
unfoldable pub start_at : ℕ → Call
unfolding at_home node own
start_at time = own time (start at_home node 64)

unfoldable pub stops_held : Answer
unfolding writes
stops_held = writes 64 (Action.Stopped At.Address 1) [] []

unfoldable pub chooses_free : Answer
unfolding writes
chooses_free = writes 64 (Action.Chose (V4 0xc0000207) 0) [] []

-- the address of `node` is congested at 100 by a timer octet
unfoldable pub congested_by : ℕ → List Call
unfolding congest to_idle
congested_by timer = to_idle ++ congest 100 0xc0000207 timer

-- by a timer octet the address is held for so many seconds; at that moment it is free
unfoldable pub held_for : ℕ → ℕ → Example
unfolding congested_by chooses_free stops_held start_at
held_for timer seconds = record {
  before = congested_by timer;
  calls = start_at 100 ∷ start_at (99 + seconds) ∷ start_at (100 + seconds) ∷ [];
  says = stops_held ∷ stops_held ∷ chooses_free ∷ [];
}

-- holds without end for n addresses, from one on
unfoldable pub hold_each : ℕ → ℕ → List Call
unfolding congest
hold_each x zero = []
hold_each x (suc n) = congest 100 x 0xE0 ++ hold_each (suc x) n

unfoldable pub holdings : List Example
unfolding acts at_home at_home6 congest declines done start_numbers congested_by held_for hold_each chooses_free stops_held node node6 node_at now own start_at to_auth
    to_idle writes
holdings =
    -- congestion 61 hex at 100: held at 101, free at 102
    held_for 0x61 2
    -- units 0 to 6 in seconds, with count 1 or 31
    ∷ held_for 0x01 600
    ∷ held_for 0x21 3600
    ∷ held_for 0x41 36000
    ∷ held_for 0x81 30
    ∷ held_for 0xA1 60
    ∷ held_for 0xC1 1152000
    ∷ held_for 0xDF 35712000
    -- unit 7 means deactivated: held without end
    ∷ record { before = congested_by 0xE0; calls = start_at 100 ∷ start_at 4294967295 ∷ []; says = stops_held ∷ stops_held ∷ [] }
    ∷ record { before = congested_by 0xFF; calls = start_at 100 ∷ start_at 4294967295 ∷ []; says = stops_held ∷ stops_held ∷ [] }
    -- an address of version 6 is held alike
    ∷ record {
      before = to_idle ++ now (start at_home6 node6 64) ∷ now begin ∷ now init ∷ now (congestion 1 0x61) ∷ [];
      calls = own 101 (start at_home6 node6 64) ∷ own 102 (start at_home6 node6 64) ∷ [];
      says = stops_held ∷ writes 64 (Action.Chose (V6 0x20010db800000000 1) 0) [] [] ∷ [];
    }
    -- count 0 with units 0 to 6 sets no hold
    ∷ record { before = congested_by 0x00; calls = start_at 100 ∷ []; says = chooses_free ∷ [] }
    ∷ record { before = congested_by 0xC0; calls = start_at 100 ∷ []; says = chooses_free ∷ [] }
    -- an error notify sets no hold
    ∷ record { before = to_auth ++ now (error 24) ∷ []; calls = start_at 100 ∷ []; says = chooses_free ∷ [] }
    -- the same N3IWF means the same address: another one is free; giving that up lifts no hold
    ∷ record {
      before = congested_by 0xE0;
      calls = now (start at_home (node_at 0xc0000208) 64) ∷ now give_up ∷ start_at 100 ∷ [];
      says = writes 64 (Action.Chose (V4 0xc0000208) 0) [] [] ∷ acts Action.Nothing ∷ stops_held ∷ [];
    }
    -- a hold is its line's own
    ∷ record {
      before = congested_by 0xE0 ++ opening 0 1 ∷ opening 1 0 ∷ [];
      calls = timed 0 1 100 (start at_home node 64) ∷ timed 1 0 100 (start at_home node 64) ∷ start_at 100 ∷ [];
      says = chooses_free ∷ chooses_free ∷ stops_held ∷ [];
    }
    -- closing and opening again leaves no hold, and time 0
    ∷ record {
      before = congested_by 0xE0;
      calls = start_at 100 ∷ closing 0 0 ∷ opening 0 0 ∷ start_at 0 ∷ [];
      says = stops_held ∷ done ∷ done ∷ chooses_free ∷ [];
    }
    -- with seven holds a start is accepted, with eight it is 13, also one that would stop at once, below it 9
    ∷ record {
      before = to_idle ++ hold_each 1 7;
      calls = congest 100 8 0xE0 ++ start_at 100 ∷ now (start (start_numbers 0 0 0 0 0 4) node 64) ∷ now (start at_home [] 64) ∷ [];
      says =
          writes 64 (Action.Chose (V4 8) 0) [] [] ∷ acts Action.SendInit ∷ acts Action.SendAuthRequest ∷ acts (Action.Released false) ∷ declines 64 13 ∷ declines 64 13
          ∷ declines 64 9 ∷ [];
    }
    -- the holds in force at the call's own time are counted
    ∷ record {
      before = to_idle ++ hold_each 1 7 ++ congest 100 8 0x61;
      calls = start_at 101 ∷ start_at 102 ∷ [];
      says = declines 64 13 ∷ chooses_free ∷ [];
    }
    ∷ []

pub holds_computed : map got holdings ≡ map said holdings
unfolding holdings got said
holds_computed = refl

-- the holds that a history leaves on line 0 of tenant 0
pub record Kept : Type 0 where
  pub history : List Call
  pub says : List Hold

unfoldable pub hold_numbers : Hold → List ℕ
unfolding end_number
hold_numbers h = version_of h.address ∷ high h.address ∷ low h.address ∷ end_number h.end ∷ []

unfoldable pub holds_in : Option Line → List Hold
holds_in None = []
holds_in (Some x) = x.holds

unfoldable pub kept : List Kept
unfolding congested_by own start_at to_idle congest
kept =
    -- until time plus count times unit, or without end
    record { history = congested_by 0x61; says = record { address = V4 0xc0000207; end = At 102 } ∷ [] }
    ∷ record { history = congested_by 0xE0; says = record { address = V4 0xc0000207; end = Never } ∷ [] }
    -- an ended hold is dropped at an accepted call, and one that has not ended stays
    ∷ record { history = congested_by 0x61 ++ start_at 101 ∷ []; says = record { address = V4 0xc0000207; end = At 102 } ∷ [] }
    ∷ record { history = congested_by 0x61 ++ start_at 102 ∷ []; says = [] }
    ∷ record {
      history = congested_by 0x61 ++ congest 100 0xc0000208 0xE0 ++ start_at 102 ∷ [];
      says = record { address = V4 0xc0000208; end = Never } ∷ [];
    }
    -- a refused call leaves the table unchanged
    ∷ record { history = congested_by 0x61 ++ own 102 begin ∷ []; says = record { address = V4 0xc0000207; end = At 102 } ∷ [] }
    -- a call on another line drops none of this line's
    ∷ record {
      history = congested_by 0x61 ++ opening 0 1 ∷ timed 0 1 102 (start at_home node 64) ∷ [];
      says = record { address = V4 0xc0000207; end = At 102 } ∷ [];
    }
    -- closing drops all
    ∷ record { history = congested_by 0xE0 ++ closing 0 0 ∷ to_idle; says = [] }
    ∷ []

unfoldable pub kept_got : Kept → List ℕ
unfolding evaluated hold_numbers holds_in slots_after
kept_got e = evaluated (joined hold_numbers (holds_in (line_at (pair_of 0 0) (slots_after e.history))))

unfoldable pub kept_said : Kept → List ℕ
unfolding hold_numbers
kept_said e = joined hold_numbers e.says

pub kept_computed : map kept_got kept ≡ map kept_said kept
unfolding kept kept_got kept_said
kept_computed = refl
