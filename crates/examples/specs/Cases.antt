-- Texts, packets, calls and answers that the computed histories share.
use Rattle.std.specs.Prelude.{ℕ, cond, List, [], ◌∷◌, ◌++◌, map, eqb, length}
use Prim.Native.String.{String}
use Rattle.octets.specs.Digits.{be}
use Rattle.octets.specs.Part.{padded, zeros}
use Rattle.text.specs.Text.{digit_text, text}
use Rattle.rules.specs.Answer.{Answer, numbers_of, number_count}
use Rattle.rules.specs.declared.Action.{Action}
use Rattle.rules.specs.Call.{Event, start, begin, init, eap, reply, final, congestion, Call, opening, start_numbers, timed}
use Rattle.rules.specs.declared.StartNumbers.{StartNumbers}

-- a record of a text as document 01 shows it: tabs as bars, ended by one newline
unfoldable pub tabbed : ℕ → ℕ
tabbed c = cond (eqb c 124) 9 c

unfoldable pub shown : String → List ℕ
unfolding tabbed
shown s = map tabbed (text s) ++ 10 ∷ []

-- the home PLMN alone, a `node` address of either version, a `node` name, and PLMNs with priorities and a bar
unfoldable pub plain : List ℕ
unfolding shown
plain = shown "home|262|01"

unfoldable pub node_at : ℕ → List ℕ
unfolding plain
node_at x = plain ++ text "node" ++ 9 ∷ text "v4" ++ 9 ∷ digit_text 16 8 x ++ 10 ∷ []

unfoldable pub node : List ℕ
unfolding node_at
node = node_at 0xc0000207

unfoldable pub node6 : List ℕ
unfolding plain
node6 = plain ++ shown "node|v6|20010db8000000000000000000000001"

unfoldable pub named : List ℕ
unfolding plain
named = plain ++ shown "node|name|n3iwf.example"

unfoldable pub roaming : List ℕ
unfolding plain
roaming =
    plain ++ shown "plmn|901|01|5" ++ shown "plmn|901|02|3" ++ shown "plmn|901|003|3" ++ shown "plmn|901|04|0" ++ shown "plmn|902|01|0"
    ++ shown "bar|901|004"

-- at home and abroad in a country with each local IP version, and abroad in 901 with a registered PLMN
unfoldable pub at_home : StartNumbers
unfolding start_numbers
at_home = start_numbers 1 0 0 0 0 4

unfoldable pub at_home6 : StartNumbers
unfolding start_numbers
at_home6 = start_numbers 1 0 0 0 0 6

unfoldable pub abroad : ℕ → StartNumbers
unfolding start_numbers
abroad mcc = start_numbers 2 mcc 0 0 0 4

unfoldable pub abroad6 : ℕ → StartNumbers
unfolding start_numbers
abroad6 mcc = start_numbers 2 mcc 0 0 0 6

unfoldable pub registered_to : ℕ → ℕ → StartNumbers
unfolding start_numbers
registered_to mcc mnc = start_numbers 2 901 1 mcc mnc 4

-- an entry of a list of networks
unfoldable pub network : ℕ → ℕ → List ℕ
network mcc mnc = be 2 mcc ++ be 2 mnc

-- EAP-5G requests with an identifier: Start, NAS 7E 01, and Success
unfoldable pub start_packet : ℕ → List ℕ
start_packet i = 0x01 ∷ i ∷ 0x00 ∷ 0x0E ∷ 0xFE ∷ 0x00 ∷ 0x28 ∷ 0xAF ∷ 0x00 ∷ 0x00 ∷ 0x00 ∷ 0x03 ∷ 0x01 ∷ 0x00 ∷ []

unfoldable pub nas_packet : ℕ → List ℕ
nas_packet i =
    0x01 ∷ i ∷ 0x00 ∷ 0x12 ∷ 0xFE ∷ 0x00 ∷ 0x28 ∷ 0xAF ∷ 0x00 ∷ 0x00 ∷ 0x00 ∷ 0x03 ∷ 0x02 ∷ 0x00 ∷ 0x00 ∷ 0x02 ∷ 0x7E ∷ 0x01 ∷ []

unfoldable pub success : ℕ → List ℕ
success i = 0x03 ∷ i ∷ 0x00 ∷ 0x04 ∷ []

-- one AN-parameter, NAS to send, and the response with identifier 7 that carries both
unfoldable pub parameters : List ℕ
parameters = 0x01 ∷ 0x01 ∷ 0xAA ∷ []

unfoldable pub nas : List ℕ
nas = 0x7E ∷ []

unfoldable pub first_reply : List ℕ
first_reply =
    0x02 ∷ 0x07 ∷ 0x00 ∷ 0x16 ∷ 0xFE ∷ 0x00 ∷ 0x28 ∷ 0xAF ∷ 0x00 ∷ 0x00 ∷ 0x00 ∷ 0x03 ∷ 0x02 ∷ 0x00 ∷ 0x00 ∷ 0x03 ∷ 0x01 ∷ 0x01 ∷ 0xAA
    ∷ 0x00 ∷ 0x01 ∷ 0x7E ∷ []

-- a later reply with identifier 7, no AN-parameters and NAS 7E
unfoldable pub later_reply : List ℕ
later_reply =
    0x02 ∷ 0x07 ∷ 0x00 ∷ 0x13 ∷ 0xFE ∷ 0x00 ∷ 0x28 ∷ 0xAF ∷ 0x00 ∷ 0x00 ∷ 0x00 ∷ 0x03 ∷ 0x02 ∷ 0x00 ∷ 0x00 ∷ 0x00 ∷ 0x00 ∷ 0x01 ∷ 0x7E ∷ []

-- an event on line 0 of tenant 0
unfoldable pub own : ℕ → Event → Call
own time e = timed 0 0 time e

unfoldable pub now : Event → Call
unfolding own
now e = own 100 e

-- the calls that bring that line to a phase
unfoldable pub to_idle : List Call
to_idle = opening 0 0 ∷ []

unfoldable pub to_country : List Call
unfolding to_idle now abroad roaming
to_country = to_idle ++ now (start (abroad 901) roaming 64) ∷ []

unfoldable pub to_name : List Call
unfolding to_idle now at_home named
to_name = to_idle ++ now (start at_home named 64) ∷ []

unfoldable pub to_chosen : List Call
unfolding to_idle now at_home node
to_chosen = to_idle ++ now (start at_home node 64) ∷ []

unfoldable pub to_init : List Call
unfolding to_chosen
to_init = to_chosen ++ now begin ∷ []

unfoldable pub to_auth : List Call
unfolding to_init
to_auth = to_init ++ now init ∷ []

-- in eap: the first reply owed, none owed, and a later reply owed
unfoldable pub to_first : List Call
unfolding to_auth start_packet
to_first = to_auth ++ now (eap (start_packet 7)) ∷ []

unfoldable pub to_answered : List Call
unfolding to_first parameters nas
to_answered = to_first ++ now (reply parameters nas 3090) ∷ []

unfoldable pub to_owed : List Call
unfolding to_answered nas_packet
to_owed = to_answered ++ now (eap (nas_packet 8)) ∷ []

unfoldable pub to_sure : List Call
unfolding to_answered success
to_sure = to_answered ++ now (eap (success 7)) ∷ []

unfoldable pub to_live : List Call
unfolding to_sure
to_live = to_sure ++ now (final 1) ∷ []

-- an idle line goes to auth with an address, and congestion by a timer octet holds that address
unfoldable pub congest : ℕ → ℕ → ℕ → List Call
unfolding own at_home node_at
congest time x timer =
    own time (start at_home (node_at x) 64) ∷ own time begin ∷ own time init ∷ own time (congestion 1 timer) ∷ []

-- open and close: accepted, refused by a number
unfoldable pub done : Answer
done = record { refusal = 0; numbers = []; part = []; buffer = [] }

unfoldable pub denied : ℕ → Answer
denied n = record { refusal = n; numbers = []; part = []; buffer = [] }

-- accepted with an answer buffer of so many octets: the part, and what is written
unfoldable pub writes : ℕ → Action → List ℕ → List ℕ → Answer
writes room action part written = record { refusal = 0; numbers = numbers_of action; part = part; buffer = padded room written }

unfoldable pub acts : Action → Answer
unfolding writes
acts action = writes 0 action [] []

unfoldable pub lists : List ℕ → Answer
unfolding writes
lists l = writes 1024 (Action.Listed (length l)) [] l

-- refused by a number, with an answer buffer of so many octets
unfoldable pub declines : ℕ → ℕ → Answer
declines room n = record { refusal = n; numbers = zeros number_count; part = []; buffer = zeros room }

unfoldable pub declined : ℕ → Answer
unfolding declines
declined n = declines 0 n
