-- Histories of 'Life of a line' and 'Listing of one tenant', each under the sentence that it shows.
use Rattle.std.specs.Prelude.{ℕ, true, false, List, [], ◌∷◌, ◌++◌, map, ◌≡◌, refl}
use Prim.Native.String.{String}
use Rattle.octets.specs.Row.{joined, row}
use Rattle.address.specs.Address.{high, low, number_of, version_of}
use Rattle.address.specs.declared.Address.TheVariants.{V4, V6}
use Rattle.rules.specs.Answer.{numbers_of, twelve}
use Rattle.rules.specs.declared.Action.{Action}
use Rattle.rules.specs.Call.{Event, start, begin, init, eap, reply, final, error, congestion, give_up, child_made, child_deleted, ike_delete, Call, opening, closing, listing, timed}
use Rattle.examples.specs.Cases.{acts, at_home, at_home6, congest, declined, done, first_reply, lists, nas, nas_packet, node, node6, node_at, now, own, parameters, plain, shown, start_packet, success, to_answered, to_auth, to_chosen, to_country, to_first, to_idle, to_init, to_live, to_name, to_owed, to_sure, writes, later_reply}
use Rattle.examples.specs.Computed.{Example, got, said}
use Rattle.examples.specs.FormExamples.{make_child}
use Rattle.examples.specs.HoldExamples.{hold_each}
use Rattle.selection.specs.declared.Stop.TheVariants as At

-- a line stands as the listing shows it
unfoldable pub standing : List Call → String → Example
unfolding lists shown
standing before shows = record { before = before; calls = listing 0 1024 ∷ []; says = lists (shown shows) ∷ [] }

-- an event is accepted with an action and leaves the line idle
unfoldable pub ending : List Call → Event → Action → Example
unfolding acts lists now shown
ending before e action = record {
  before = before;
  calls = now e ∷ listing 0 1024 ∷ [];
  says = acts action ∷ lists (shown "line|0|idle|-|0") ∷ [];
}

-- a live line with one child, and one with two
unfoldable pub to_child : List Call
unfolding to_live
to_child = to_live ++ now (child_made 0xc0de 5) ∷ []

unfoldable pub to_children : List Call
unfolding to_child
to_children = to_child ++ now (child_made 0x100 15) ∷ []

-- the same call on another pair (tenant, line)
unfoldable pub moved : ℕ → ℕ → Call → Call
moved tenant line (opening a b) = opening tenant line
moved tenant line (closing a b) = closing tenant line
moved tenant line (listing a room) = listing tenant room
moved tenant line (timed a b time e) = timed tenant line time e

unfoldable pub lives : List Example
unfolding acts at_home at_home6 congest declined done ending first_reply hold_each later_reply lists make_child moved nas nas_packet node node6 node_at now own
    parameters plain shown standing start_packet success to_answered to_auth to_child to_children to_chosen to_country to_first to_idle to_init to_live to_name
    to_owed to_sure writes
lives =
    -- from start to live with two children: each event is accepted in its phase, with its action
    record {
      before = [];
      calls =
          opening 0 0 ∷ now (start at_home node 64) ∷ now begin ∷ now init ∷ now (eap (start_packet 7)) ∷ now (reply parameters nas 3090)
          ∷ now (eap (nas_packet 7)) ∷ now (reply [] nas 3090) ∷ now (eap (success 7)) ∷ now (final 1) ∷ now (child_made 0xc0de 5)
          ∷ now (child_made 0x100 15) ∷ [];
      says =
          done ∷ writes 64 (Action.Chose (V4 0xc0000207) 0) [] [] ∷ acts Action.SendInit ∷ acts Action.SendAuthRequest ∷ acts Action.AskNas
          ∷ writes 3090 (Action.SendResponse 22) [] first_reply ∷ writes 0 (Action.HandUp 16 2) (0x7E ∷ 0x01 ∷ []) []
          ∷ writes 3090 (Action.SendResponse 19) [] later_reply ∷ acts Action.SendAuth ∷ acts Action.Live ∷ acts Action.Nothing ∷ acts Action.Nothing ∷ [];
    }
    -- the listing of document 01: open lines by rising number, whatever the order in which they were opened
    ∷ record {
      before = opening 0 2 ∷ to_child;
      calls = listing 0 1024 ∷ [];
      says = lists (shown "line|0|live|c0000207|1" ++ shown "child|0|0000c0de|5" ++ shown "line|2|idle|-|0") ∷ [];
    }
    -- an SPI has all its eight digits
    ∷ record {
      before = to_live ++ now (child_made 0xdeadbeef 15) ∷ [];
      calls = listing 0 1024 ∷ [];
      says = lists (shown "line|0|live|c0000207|1" ++ shown "child|0|deadbeef|15") ∷ [];
    }
    -- a later reply may have AN-parameters too
    ∷ record {
      before = to_answered ++ now (eap (nas_packet 7)) ∷ [];
      calls = now (reply parameters nas 3090) ∷ [];
      says = writes 3090 (Action.SendResponse 22) [] first_reply ∷ [];
    }
    -- NAS is written in the order lent, in the first reply and in a later one
    ∷ record {
      before = to_first;
      calls = now (reply parameters (0x7E ∷ 0x01 ∷ []) 3090) ∷ now (eap (nas_packet 8)) ∷ now (reply [] (0x7E ∷ 0x00 ∷ 0x41 ∷ []) 3090) ∷ [];
      says =
          writes 3090 (Action.SendResponse 23) []
          (0x02 ∷ 0x07 ∷ 0x00 ∷ 0x17 ∷ 0xFE ∷ 0x00 ∷ 0x28 ∷ 0xAF ∷ 0x00 ∷ 0x00 ∷ 0x00 ∷ 0x03 ∷ 0x02 ∷ 0x00 ∷ 0x00 ∷ 0x03 ∷ 0x01 ∷ 0x01
          ∷ 0xAA ∷ 0x00 ∷ 0x02 ∷ 0x7E ∷ 0x01 ∷ [])
          ∷ writes 0 (Action.HandUp 16 2) (0x7E ∷ 0x01 ∷ []) []
          ∷ writes 3090 (Action.SendResponse 21) []
          (0x02 ∷ 0x08 ∷ 0x00 ∷ 0x15 ∷ 0xFE ∷ 0x00 ∷ 0x28 ∷ 0xAF ∷ 0x00 ∷ 0x00 ∷ 0x00 ∷ 0x03 ∷ 0x02 ∷ 0x00 ∷ 0x00 ∷ 0x00 ∷ 0x00 ∷ 0x03
          ∷ 0x7E ∷ 0x00 ∷ 0x41 ∷ [])
          ∷ [];
    }
    -- a hold in force refuses no event from start to live with children, and it stands after IKE delete
    ∷ record {
      before = to_idle ++ congest 100 0xc0000208 0x41;
      calls =
          now (start at_home node 64) ∷ now begin ∷ now init ∷ now (eap (start_packet 7)) ∷ now (reply parameters nas 3090) ∷ now (eap (nas_packet 7))
          ∷ now (reply [] nas 3090) ∷ now (eap (success 7)) ∷ now (final 1) ∷ now (child_made 0xc0de 5) ∷ now (child_made 0x100 15)
          ∷ now (child_deleted 0xc0de) ∷ listing 0 1024 ∷ now ike_delete ∷ now (start at_home (node_at 0xc0000208) 64) ∷ [];
      says =
          writes 64 (Action.Chose (V4 0xc0000207) 0) [] [] ∷ acts Action.SendInit ∷ acts Action.SendAuthRequest ∷ acts Action.AskNas
          ∷ writes 3090 (Action.SendResponse 22) [] first_reply ∷ writes 0 (Action.HandUp 16 2) (0x7E ∷ 0x01 ∷ []) []
          ∷ writes 3090 (Action.SendResponse 19) [] later_reply ∷ acts Action.SendAuth ∷ acts Action.Live ∷ acts Action.Nothing ∷ acts Action.Nothing
          ∷ acts Action.Nothing ∷ lists (shown "line|0|live|c0000207|1" ++ shown "child|0|00000100|15") ∷ acts (Action.Released false)
          ∷ writes 64 (Action.Stopped At.Address 1) [] [] ∷ [];
    }
    -- seven holds refuse none either
    ∷ record {
      before =
          to_idle ++ hold_each 1 7 ++ now (start at_home node 64) ∷ now begin ∷ now init ∷ now (eap (start_packet 7)) ∷ now (reply parameters nas 3090)
          ∷ now (eap (success 7)) ∷ [];
      calls = now (final 1) ∷ now (child_made 0xc0de 5) ∷ listing 0 1024 ∷ [];
      says = acts Action.Live ∷ acts Action.Nothing ∷ lists (shown "line|0|live|c0000207|1" ++ shown "child|0|0000c0de|5") ∷ [];
    }
    -- children in the order made; the deleted one is gone and the other stays
    ∷ record {
      before = to_children;
      calls = listing 0 1024 ∷ now (child_deleted 0xc0de) ∷ listing 0 1024 ∷ [];
      says =
          lists (shown "line|0|live|c0000207|2" ++ shown "child|0|0000c0de|5" ++ shown "child|0|00000100|15") ∷ acts Action.Nothing
          ∷ lists (shown "line|0|live|c0000207|1" ++ shown "child|0|00000100|15") ∷ [];
    }
    -- a child record has its line
    ∷ record {
      before = map (moved 0 2) to_children ++ to_child;
      calls = listing 0 1024 ∷ [];
      says =
          lists
          (shown "line|0|live|c0000207|1" ++ shown "child|0|0000c0de|5" ++ shown "line|2|live|c0000207|2" ++ shown "child|2|0000c0de|5"
          ++ shown "child|2|00000100|15")
          ∷ [];
    }
    -- of four open lines each is listed, behind one without children and behind one with two or eight
    ∷ record {
      before = map (moved 0 3) to_name ++ map (moved 0 1) to_children ++ to_country ++ map (moved 0 2) (to_live ++ row make_child 0x100 8);
      calls = listing 0 1024 ∷ [];
      says =
          lists
          (joined shown
          ("line|0|country|-|0" ∷ "line|1|live|c0000207|2" ∷ "child|1|0000c0de|5" ∷ "child|1|00000100|15" ∷ "line|2|live|c0000207|8" ∷ "child|2|00000100|1"
          ∷ "child|2|00000101|1" ∷ "child|2|00000102|1" ∷ "child|2|00000103|1" ∷ "child|2|00000104|1" ∷ "child|2|00000105|1" ∷ "child|2|00000106|1"
          ∷ "child|2|00000107|1" ∷ "line|3|name|-|0" ∷ []))
          ∷ [];
    }
    -- no open line: no octets, accepted; another tenant's lines are not listed
    ∷ record {
      before = to_child ++ map (moved 1 3) to_children ++ map (moved 15 1) to_country ++ map (moved 1 0) to_idle;
      calls = listing 0 1024 ∷ listing 1 1024 ∷ listing 2 1024 ∷ listing 15 1024 ∷ [];
      says =
          lists (shown "line|0|live|c0000207|1" ++ shown "child|0|0000c0de|5")
          ∷ lists (shown "line|0|idle|-|0" ++ shown "line|3|live|c0000207|2" ++ shown "child|3|0000c0de|5" ++ shown "child|3|00000100|15")
          ∷ lists [] ∷ lists (shown "line|1|country|-|0") ∷ [];
    }
    -- an address of version 6 has 32 digits
    ∷ standing (to_idle ++ now (start at_home6 node6 64) ∷ []) "line|0|chosen|20010db8000000000000000000000001|0"
    -- an address has all its digits, zeros before the others too: 10.0.0.1 and ::1
    ∷ standing (to_idle ++ now (start at_home (node_at 0x0a000001) 64) ∷ []) "line|0|chosen|0a000001|0"
    ∷ standing (to_idle ++ now (start at_home6 (plain ++ shown "node|v6|00000000000000000000000000000001") 64) ∷ [])
    "line|0|chosen|00000000000000000000000000000001|0"
    -- the phase after each event, with the chosen address from the choice on
    ∷ standing to_idle "line|0|idle|-|0"
    ∷ standing to_country "line|0|country|-|0"
    ∷ standing to_name "line|0|name|-|0"
    ∷ standing to_chosen "line|0|chosen|c0000207|0"
    ∷ standing to_init "line|0|init|c0000207|0"
    ∷ standing to_auth "line|0|auth|c0000207|0"
    ∷ standing to_first "line|0|eap|c0000207|0"
    ∷ standing to_answered "line|0|eap|c0000207|0"
    ∷ standing to_owed "line|0|eap|c0000207|0"
    ∷ standing to_sure "line|0|sure|c0000207|0"
    ∷ standing to_live "line|0|live|c0000207|0"
    -- final answer, AUTH bad: idle, released
    ∷ ending to_sure (final 0) (Action.Released false)
    -- error notify 1 to 16,383: idle, error up, EAP ended if eap
    ∷ ending to_auth (error 1) (Action.ErrorUp false 1)
    ∷ ending to_first (error 24) (Action.ErrorUp true 24)
    ∷ ending to_sure (error 16383) (Action.ErrorUp false 16383)
    -- congestion: idle, released, EAP ended if eap
    ∷ ending to_auth (congestion 1 0x61) (Action.Released false)
    ∷ ending to_answered (congestion 1 0x61) (Action.Released true)
    ∷ ending to_sure (congestion 1 0x61) (Action.Released false)
    -- give up: idle, with no action
    ∷ ending to_country give_up Action.Nothing
    ∷ ending to_name give_up Action.Nothing
    ∷ ending to_chosen give_up Action.Nothing
    ∷ ending to_init give_up Action.Nothing
    ∷ ending to_auth give_up Action.Nothing
    ∷ ending to_first give_up Action.Nothing
    ∷ ending to_sure give_up Action.Nothing
    -- IKE delete: idle, no child, released
    ∷ ending to_children ike_delete (Action.Released false)
    -- EAP NAS has the identifier of its response, and Success has to have that of the last reply
    ∷ record {
      before = to_answered;
      calls = now (eap (nas_packet 9)) ∷ now (eap (success 9)) ∷ now (reply [] nas 3090) ∷ now (eap (success 7)) ∷ now (eap (success 9)) ∷ [];
      says =
          writes 0 (Action.HandUp 16 2) (0x7E ∷ 0x01 ∷ []) [] ∷ declined 10
          ∷ writes 3090 (Action.SendResponse 19) []
          (0x02 ∷ 0x09 ∷ 0x00 ∷ 0x13 ∷ 0xFE ∷ 0x00 ∷ 0x28 ∷ 0xAF ∷ 0x00 ∷ 0x00 ∷ 0x00 ∷ 0x03 ∷ 0x02 ∷ 0x00 ∷ 0x00 ∷ 0x00 ∷ 0x00 ∷ 0x01 ∷ 0x7E ∷ [])
          ∷ declined 10 ∷ acts Action.SendAuth ∷ [];
    }
    -- closing fills the record with zeros: opened again and live again, the line has no child
    ∷ standing (to_children ++ closing 0 0 ∷ to_live) "line|0|live|c0000207|0"
    -- open sets the time to 0
    ∷ record {
      before = to_children;
      calls = own 99 ike_delete ∷ closing 0 0 ∷ opening 0 0 ∷ own 0 (start at_home node 64) ∷ [];
      says = declined 7 ∷ done ∷ done ∷ writes 64 (Action.Chose (V4 0xc0000207) 0) [] [] ∷ [];
    }
    -- a listing in a longer buffer: zeros behind it
    ∷ record {
      before = to_live;
      calls = listing 0 1030 ∷ [];
      says = writes 1030 (Action.Listed 23) [] (shown "line|0|live|c0000207|0") ∷ [];
    }
    ∷ []

pub lives_computed : map got lives ≡ map said lives
unfolding lives got said
lives_computed = refl

-- every action in the order of the numbers that name actions, and last a listing, whose number is 0
unfoldable pub actions : List Action
actions =
    Action.Nothing ∷ Action.Stopped At.Address 2 ∷ Action.AskCountry 52 ∷ Action.AskText 22 13 ∷ Action.AskBuilt 43 ∷ Action.Chose (V4 5) 2 ∷ Action.Chose (V6 8 9) 1 ∷ Action.SendInit ∷ Action.SendAuthRequest
    ∷ Action.AskNas ∷ Action.HandUp 16 3 ∷ Action.SendResponse 19 ∷ Action.SendAuth ∷ Action.Live ∷ Action.Released true ∷ Action.ErrorUp true 24 ∷ Action.Listed 42
    -- and once more with other numbers
    ∷ Action.Stopped At.Barred 16 ∷ Action.AskCountry 51 ∷ Action.AskText 5 253 ∷ Action.AskBuilt 42 ∷ Action.Chose (V4 7) 15 ∷ Action.HandUp 18 2048 ∷ Action.SendResponse 3090 ∷ Action.Released false
    ∷ Action.ErrorUp false 16383 ∷ Action.Listed 1024 ∷ []

-- the twelve numbers of each
unfoldable pub action_numbers : List (List ℕ)
unfolding twelve
action_numbers =
    twelve 0 0 0 0 0 0 0 0 0 0 0 0
    ∷ twelve 1 4 2 0 0 0 0 0 0 0 0 0
    ∷ twelve 2 0 0 2 0 52 0 0 0 0 0 52
    ∷ twelve 3 0 0 1 22 13 0 0 0 0 0 0
    ∷ twelve 3 0 0 2 0 43 0 0 0 0 0 43
    ∷ twelve 4 0 2 0 0 0 4 0 5 0 0 0
    ∷ twelve 4 0 1 0 0 0 6 8 9 0 0 0
    ∷ twelve 5 0 0 0 0 0 0 0 0 0 0 0
    ∷ twelve 6 0 0 0 0 0 0 0 0 0 0 0
    ∷ twelve 7 0 0 0 0 0 0 0 0 0 0 0
    ∷ twelve 8 0 0 3 16 3 0 0 0 0 0 0
    ∷ twelve 9 0 0 0 0 0 0 0 0 0 0 19
    ∷ twelve 10 0 0 0 0 0 0 0 0 0 0 0
    ∷ twelve 11 0 0 0 0 0 0 0 0 0 0 0
    ∷ twelve 12 0 0 0 0 0 0 0 0 1 0 0
    ∷ twelve 13 0 0 0 0 0 0 0 0 1 24 0
    ∷ twelve 0 0 0 0 0 0 0 0 0 0 0 42
    ∷ twelve 1 3 16 0 0 0 0 0 0 0 0 0
    ∷ twelve 2 0 0 2 0 51 0 0 0 0 0 51
    ∷ twelve 3 0 0 1 5 253 0 0 0 0 0 0
    ∷ twelve 3 0 0 2 0 42 0 0 0 0 0 42
    ∷ twelve 4 0 15 0 0 0 4 0 7 0 0 0
    ∷ twelve 8 0 0 3 18 2048 0 0 0 0 0 0
    ∷ twelve 9 0 0 0 0 0 0 0 0 0 0 3090
    ∷ twelve 12 0 0 0 0 0 0 0 0 0 0 0
    ∷ twelve 13 0 0 0 0 0 0 0 0 0 16383 0
    ∷ twelve 0 0 0 0 0 0 0 0 0 0 0 1024
    ∷ []

pub actions_computed : map numbers_of actions ≡ action_numbers
unfolding actions action_numbers numbers_of twelve high low number_of version_of
actions_computed = refl
