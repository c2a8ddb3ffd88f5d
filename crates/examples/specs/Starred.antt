-- Document 01's starred examples, as one statement over one list.
use Rattle.std.specs.Prelude.{ℕ, List, [], ◌∷◌, ◌++◌, map, ◌≡◌, refl}
use Rattle.octets.specs.Part.{padded, zeros}
use Rattle.octets.specs.Row.{joined}
use Rattle.address.specs.declared.Address.{Address}
use Rattle.address.specs.declared.Address.TheVariants.{V4, V6}
use Rattle.addresses.specs.Addresses.{address_octets}
use Rattle.eap.specs.Packet.{is_request, packet_numbers}
use Rattle.gateway.specs.Gateway.{choose, found_numbers}
use Rattle.lists.specs.Lists.{addresses_in}
use Rattle.network.specs.Name.{operator_name, visited_name}
use Rattle.packets.specs.Packets.{PacketAnswer, fields_only, packet_returned, read_request, read_timer, request_answer, unless_refused, write_response}
use Rattle.response.specs.Response.{out_of_range, write_refusal, written_packet}
use Rattle.text.specs.Text.{text}
use Rattle.timer.specs.Timer.{timer_numbers}
use Rattle.rules.specs.Answer.{Answer, twelve}
use Rattle.rules.specs.Call.{start, address, eap, Call, listing}
use Rattle.examples.specs.Cases.{at_home, congest, named, node, now, own, shown, to_answered, to_first, to_idle, to_name}
use Rattle.examples.specs.Computed.{answers_after, counted, evaluated}

-- what the definitions give, and what document 01 says
pub record StarredExample : Type 0 where
  pub gives : List ℕ
  pub says : List ℕ

-- the refusal number and the twelve numbers
unfoldable pub gist : Answer → List ℕ
gist a = a.refusal ∷ a.numbers

unfoldable pub gists : List Call → List Call → List ℕ
unfolding answers_after gist
gists before calls = joined gist (answers_after before calls)

-- the answer buffers
unfoldable pub buffer_of : Answer → List ℕ
buffer_of a = a.buffer

unfoldable pub buffers : List Call → List Call → List ℕ
unfolding answers_after buffer_of
buffers before calls = joined buffer_of (answers_after before calls)

-- the refusal number and the six numbers of a call without a table
unfoldable pub packet_gist : PacketAnswer → List ℕ
unfolding fields_only is_request out_of_range packet_numbers packet_returned read_request read_timer request_answer timer_numbers unless_refused
    write_refusal write_response written_packet
packet_gist a = a.refusal ∷ a.fields

-- 2001:db8::1, 192.0.2.1 and 192.0.2.7
unfoldable pub three : List Address
three = V6 0x20010db800000000 1 ∷ V4 0xc0000201 ∷ V4 0xc0000207 ∷ []

unfoldable pub starred : List StarredExample
unfolding at_home buffers congest counted found_numbers gists named node now own packet_gist shown three to_answered to_first to_idle to_name
    twelve
starred =
    -- timer 61 hex: 2 s
    record { gives = packet_gist (read_timer 0x61); says = 0 ∷ padded 6 (1 ∷ 2 ∷ []) }
    -- 00: none
    ∷ record { gives = packet_gist (read_timer 0x00); says = 0 ∷ zeros 6 }
    -- E0: deactivated
    ∷ record { gives = packet_gist (read_timer 0xE0); says = 0 ∷ padded 6 (2 ∷ []) }
    -- DF: 35,712,000 s
    ∷ record { gives = packet_gist (read_timer 0xDF); says = 0 ∷ padded 6 (1 ∷ 35_712_000 ∷ []) }
    -- congestion 61 at time 100: held at 101, so that a `node` address stops with 4, 1 passed over; free at 102
    ∷ record {
      gives = gists (to_idle ++ congest 100 0xc0000207 0x61) (own 101 (start at_home node 64) ∷ own 102 (start at_home node 64) ∷ []);
      says = (0 ∷ twelve 1 4 1 0 0 0 0 0 0 0 0 0) ++ 0 ∷ twelve 4 0 0 0 0 0 4 0 0xc0000207 0 0 0;
    }
    -- 999/70
    ∷ record {
      gives = counted (operator_name (record { mcc = 999; mnc = 70 }));
      says = 43 ∷ text "n3iwf.5gc.mnc070.mcc999.pub.3gppnetwork.org";
    }
    -- abroad 999
    ∷ record { gives = counted (visited_name 999); says = 52 ∷ text "n3iwf.5gc.mcc999.visited-country.pub.3gppnetwork.org" }
    -- addresses v6, held v4, 192.0.2.7 with local v4: the third, 2 passed over
    ∷ record {
      gives = found_numbers (choose 4 (V4 0xc0000201 ∷ []) (addresses_in (joined address_octets three)));
      says = 0 ∷ 2 ∷ 4 ∷ 0 ∷ 0xc0000207 ∷ [];
    }
    ∷ record {
      gives =
          gists (to_idle ++ congest 100 0xc0000201 0xE0 ++ now (start at_home named 64) ∷ []) (now (address (joined address_octets three)) ∷ []);
      says = 0 ∷ twelve 4 0 2 0 0 0 4 0 0xc0000207 0 0 0;
    }
    -- empty: stop 4, 0
    ∷ record { gives = found_numbers (choose 4 (V4 0xc0000201 ∷ []) (addresses_in [])); says = 4 ∷ 0 ∷ 0 ∷ 0 ∷ 0 ∷ [] }
    ∷ record { gives = gists to_name (now (address []) ∷ []); says = 0 ∷ twelve 1 4 0 0 0 0 0 0 0 0 0 0 }
    -- Start, identifier 7
    ∷ record {
      gives =
          packet_gist (read_request (0x01 ∷ 0x07 ∷ 0x00 ∷ 0x0E ∷ 0xFE ∷ 0x00 ∷ 0x28 ∷ 0xAF ∷ 0x00 ∷ 0x00 ∷ 0x00 ∷ 0x03 ∷ 0x01 ∷ 0x00 ∷ []));
      says = 0 ∷ padded 6 (1 ∷ 7 ∷ []);
    }
    -- later reply 7, no AN, NAS 7E
    ∷ record {
      gives = packet_gist (write_response 7 [] (0x7E ∷ []) 3090);
      says = 0 ∷ 2 ∷ 7 ∷ 16 ∷ 0 ∷ 18 ∷ 1 ∷ [];
    }
    ∷ record {
      gives = (write_response 7 [] (0x7E ∷ []) 3090).buffer;
      says =
          padded 3090
          (0x02 ∷ 0x07 ∷ 0x00 ∷ 0x13 ∷ 0xFE ∷ 0x00 ∷ 0x28 ∷ 0xAF ∷ 0x00 ∷ 0x00 ∷ 0x00 ∷ 0x03 ∷ 0x02 ∷ 0x00 ∷ 0x00 ∷ 0x00 ∷ 0x00 ∷ 0x01 ∷ 0x7E ∷ []);
    }
    -- Success `03 07 00 04` while 7 is owed: 10
    ∷ record { gives = gists to_first (now (eap (0x03 ∷ 0x07 ∷ 0x00 ∷ 0x04 ∷ [])) ∷ []); says = 10 ∷ zeros 12 }
    -- after the reply: sure
    ∷ record {
      gives = gists to_answered (now (eap (0x03 ∷ 0x07 ∷ 0x00 ∷ 0x04 ∷ [])) ∷ []);
      says = 0 ∷ twelve 10 0 0 0 0 0 0 0 0 0 0 0;
    }
    ∷ record {
      gives = buffers (to_answered ++ now (eap (0x03 ∷ 0x07 ∷ 0x00 ∷ 0x04 ∷ [])) ∷ []) (listing 0 1024 ∷ []);
      says = padded 1024 (shown "line|0|sure|c0000207|0");
    }
    ∷ []

unfoldable pub starred_got : StarredExample → List ℕ
unfolding evaluated
starred_got e = evaluated e.gives

unfoldable pub starred_said : StarredExample → List ℕ
starred_said e = e.says

pub computed : map starred_got starred ≡ map starred_said starred
unfolding starred starred_got starred_said
computed = refl
