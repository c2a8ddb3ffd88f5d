-- Histories of 'Refusal numbers', each under the sentence that it shows; a refused answer is a number, zeros and an empty part.
use Rattle.std.specs.Prelude.{ℕ, ◌/◌, ◌%◌, List, [], ◌∷◌, ◌++◌, map, ◌≡◌, refl, replicate}
use Rattle.octets.specs.Part.{zeros}
use Rattle.octets.specs.Row.{joined, row}
use Rattle.address.specs.declared.Address.TheVariants.{V4, V6}
use Rattle.addresses.specs.Addresses.{address_octets}
use Rattle.text.specs.Text.{text}
use Rattle.rules.specs.declared.Action.TheVariants as Action
use Rattle.rules.specs.Call.{start, country, address, begin, init, reply, final, error, congestion, give_up, child_made, child_deleted, Call, opening, closing, listing, timed, start_numbers}
use Rattle.rules.specs.declared.StartNumbers.{StartNumbers}
use Rattle.examples.specs.Cases.{abroad, acts, at_home, declined, declines, denied, done, first_reply, lists, nas, network, node, now, own, parameters, plain, roaming, shown, to_chosen, to_country, to_first, to_idle, to_live, to_name, to_sure, writes, registered_to}
use Rattle.examples.specs.Computed.{Example, got, said}
use Rattle.examples.specs.HoldExamples.{hold_each}
use Rattle.selection.specs.declared.Stop.TheVariants as At

-- each of the 64 pairs is opened by its number
unfoldable pub open_pair : ℕ → Call
open_pair k = opening (k / 4) (k % 4)

-- a start by its numbers
unfoldable pub start_at_node : StartNumbers → Call
unfolding node now
start_at_node g = now (start g node 64)

-- a start in which everything is wrong that can be
unfoldable pub worst : ℕ → ℕ → ℕ → ℕ → Call
unfolding start_numbers
worst tenant line time room = timed tenant line time (start (start_numbers 3 0 0 0 0 4) [] room)

unfoldable pub lowest : List Example
unfolding acts at_home declined declines denied done first_reply hold_each lists nas node now open_pair own parameters plain abroad shown
    start_numbers to_chosen to_first to_idle worst writes
lowest =
    -- 2: tenant above 15 or line above 3
    record {
      before = [];
      calls =
          opening 16 0 ∷ opening 0 4 ∷ opening 15 3 ∷ closing 16 0 ∷ closing 0 4 ∷ timed 16 0 100 begin ∷ timed 0 4 100 begin
          ∷ listing 16 1024 ∷ listing 15 1024 ∷ [];
      says =
          denied 2 ∷ denied 2 ∷ done ∷ denied 2 ∷ denied 2 ∷ declined 2 ∷ declined 2 ∷ declines 1024 2 ∷ lists (shown "line|3|idle|-|0") ∷ [];
    }
    -- 3: name under 64 octets, listing under 1,024, reply under 3,090
    ∷ record {
      before = to_idle;
      calls =
          now (start at_home plain 63) ∷ now (start (abroad 901) plain 64) ∷ now (country 0 [] plain 63) ∷ now (country 0 [] plain 64)
          ∷ listing 0 1023 ∷ listing 0 1024 ∷ [];
      says =
          declines 63 3
          ∷ writes 64 (Action.AskCountry 52) (text "n3iwf.5gc.mcc901.visited-country.pub.3gppnetwork.org")
          (text "n3iwf.5gc.mcc901.visited-country.pub.3gppnetwork.org")
          ∷ declines 63 3 ∷ writes 64 (Action.Stopped At.NoReply 0) [] [] ∷ declines 1023 3 ∷ lists (shown "line|0|idle|-|0") ∷ [];
    }
    ∷ record {
      before = to_first;
      calls = now (reply parameters nas 3089) ∷ now (reply parameters nas 3090) ∷ [];
      says = declines 3089 3 ∷ writes 3090 (Action.SendResponse 22) [] first_reply ∷ [];
    }
    -- the octets of a longer reply buffer past the written part are zeros up to its end, and all of them where the call is refused
    ∷ record {
      before = to_first;
      calls = now (reply parameters [] 3100) ∷ now (reply parameters nas 3100) ∷ [];
      says = declines 3100 8 ∷ writes 3100 (Action.SendResponse 22) [] first_reply ∷ [];
    }
    -- 4: open, and the pair is open already; 5: the pair isn't open
    ∷ record {
      before = to_idle;
      calls = opening 0 0 ∷ opening 0 1 ∷ closing 0 2 ∷ timed 0 2 100 begin ∷ timed 1 0 100 begin ∷ closing 0 0 ∷ closing 0 0 ∷ now begin ∷ [];
      says = denied 4 ∷ done ∷ denied 5 ∷ declined 5 ∷ declined 5 ∷ done ∷ denied 5 ∷ declined 5 ∷ [];
    }
    -- 6: the 32nd open is accepted and the 33rd is 6, below it 4; a closed line's record is taken again
    ∷ record {
      before = row open_pair 0 31;
      calls = open_pair 31 ∷ open_pair 32 ∷ open_pair 31 ∷ closing 3 1 ∷ open_pair 32 ∷ open_pair 33 ∷ [];
      says = done ∷ denied 6 ∷ denied 4 ∷ done ∷ done ∷ denied 6 ∷ [];
    }
    -- 7: time earlier than the line's last accepted time; a neighbour's late call does not refuse yours
    ∷ record {
      before =
          to_chosen ++ opening 0 1 ∷ opening 1 0 ∷ timed 0 1 500 (start at_home node 64) ∷ timed 1 0 900 (start at_home node 64) ∷ [];
      calls = own 99 begin ∷ own 100 begin ∷ timed 0 1 499 begin ∷ timed 1 0 899 begin ∷ [];
      says = declined 7 ∷ acts Action.SendInit ∷ declined 7 ∷ declined 7 ∷ [];
    }
    -- the time is stored when accepted, and not when refused
    ∷ record {
      before = to_chosen;
      calls = own 200 init ∷ own 150 begin ∷ own 149 give_up ∷ own 150 give_up ∷ [];
      says = declined 10 ∷ acts Action.SendInit ∷ declined 7 ∷ acts Action.Nothing ∷ [];
    }
    -- 13: start, and eight holds are in force; below it 7, 8 and 9, and another event is 10
    ∷ record {
      before = to_idle ++ hold_each 1 8;
      calls =
          own 99 (start at_home node 64) ∷ now (start (start_numbers 3 0 0 0 0 4) node 64) ∷ now (start at_home [] 64) ∷ now begin
          ∷ now (start at_home node 64) ∷ [];
      says = declines 64 7 ∷ declines 64 8 ∷ declines 64 9 ∷ declined 10 ∷ declines 64 13 ∷ [];
    }
    -- the lowest number that applies is given
    ∷ record {
      before = to_chosen;
      calls =
          worst 16 4 99 63 ∷ worst 0 1 99 63 ∷ worst 0 1 99 64 ∷ worst 0 0 99 64 ∷ worst 0 0 100 64 ∷ now (start at_home [] 64)
          ∷ now (start at_home node 64) ∷ now give_up ∷ now (start at_home node 64) ∷ [];
      says =
          declines 63 2 ∷ declines 63 3 ∷ declines 64 5 ∷ declines 64 7 ∷ declines 64 8 ∷ declines 64 9 ∷ declines 64 10 ∷ acts Action.Nothing
          ∷ writes 64 (Action.Chose (V4 0xc0000207) 0) [] [] ∷ [];
    }
    ∷ []

pub lowest_computed : map got lowest ≡ map said lowest
unfolding lowest got said
lowest_computed = refl

unfoldable pub ranges : List Example
unfolding acts at_home declined declines start_numbers nas network now own parameters registered_to roaming shown start_at_node to_chosen to_country to_first to_idle
    to_live to_name to_sure writes
ranges =
    -- 8: place one of three, MCC and MNC 0 to 999, a flag 0 or 1, local IP version 4 or 6; a number that a call does not have is 0
    record {
      before = to_idle;
      calls =
          map start_at_node
          (start_numbers 3 0 0 0 0 4 ∷ start_numbers 2 1000 0 0 0 4 ∷ start_numbers 1 901 0 0 0 4 ∷ start_numbers 0 901 0 0 0 4 ∷ start_numbers 1 0 2 0 0 4 ∷ start_numbers 1 0 1 1000 0 4
          ∷ start_numbers 1 0 1 0 1000 4 ∷ start_numbers 1 0 0 1 0 4 ∷ start_numbers 1 0 0 0 1 4 ∷ start_numbers 1 0 0 0 0 5
          -- abroad with the home MCC of the lent text
          ∷ start_numbers 2 262 0 0 0 4 ∷ start_numbers 2 999 1 999 999 4 ∷ []);
      says =
          replicate 11 (declines 64 8)
          ++ writes 64 (Action.AskCountry 52) (text "n3iwf.5gc.mcc999.visited-country.pub.3gppnetwork.org")
          (text "n3iwf.5gc.mcc999.visited-country.pub.3gppnetwork.org")
          ∷ [];
    }
    -- also where the event isn't allowed in this phase: abroad with the home MCC, NAS empty or over-long
    ∷ record {
      before = to_live;
      calls = start_at_node (start_numbers 2 262 0 0 0 4) ∷ now (reply parameters [] 3090) ∷ now (reply parameters (zeros 2049) 3090) ∷ [];
      says = declines 64 8 ∷ declines 3090 8 ∷ declines 3090 8 ∷ [];
    }
    -- a configuration text over 1,024 octets is 8
    ∷ record {
      before = to_idle;
      calls = now (start at_home (zeros 1025) 64) ∷ now (start at_home (zeros 1024) 64) ∷ [];
      says = declines 64 8 ∷ declines 64 9 ∷ [];
    }
    -- with the country answer too
    ∷ record {
      before = to_country;
      calls = now (country 1 [] (zeros 1025) 64) ∷ now (country 1 [] (zeros 1024) 64) ∷ [];
      says = declines 64 8 ∷ declines 64 9 ∷ [];
    }
    -- a time is 0 to 4,294,967,295
    ∷ record {
      before = to_chosen;
      calls = own 4294967296 begin ∷ own 4294967295 begin ∷ [];
      says = declined 8 ∷ acts Action.SendInit ∷ [];
    }
    -- a lent list of networks that isn't at most 16 whole entries in their range, or that comes without a reply
    ∷ record {
      before = to_country;
      calls =
          now (country 2 [] roaming 64) ∷ now (country 0 (network 901 1) roaming 64) ∷ now (country 1 (zeros 5) roaming 64)
          ∷ now (country 1 (zeros 68) roaming 64) ∷ now (country 1 (network 1000 1) roaming 64) ∷ now (country 1 (network 901 1000) roaming 64)
          ∷ now (country 1 (network 901 1 ++ network 1000 1) roaming 64)
          -- the last of 16 entries is tested too
          ∷ now (country 1 (joined (network 901) (row (λ k. k) 0 15) ++ network 1000 1) roaming 64)
          ∷ now (country 1 (joined (network 901) (row (λ k. k) 0 15) ++ network 901 1000) roaming 64)
          -- abroad with the home MCC of the lent text, at the country answer too
          ∷ now (country 1 [] (shown "home|901|01") 64) ∷ now (country 1 (zeros 64) roaming 64) ∷ [];
      says =
          replicate 10 (declines 64 8)
          ++ writes 64 (Action.AskBuilt 43) (text "n3iwf.5gc.mnc000.mcc000.pub.3gppnetwork.org") (text "n3iwf.5gc.mnc000.mcc000.pub.3gppnetwork.org")
          ∷ [];
    }
    -- a line that does not wait for the country answer has no such test
    ∷ record {
      before = to_idle ++ now (start (registered_to 901 2) roaming 64) ∷ [];
      calls = now (country 1 [] (shown "home|901|01") 64) ∷ [];
      says = declines 64 10 ∷ [];
    }
    -- a lent list of addresses that isn't at most 16 whole entries of version 4, with zeros behind it, or 6
    ∷ record {
      before = to_name;
      calls =
          now (address (4 ∷ zeros 15)) ∷ now (address (5 ∷ zeros 16)) ∷ now (address (4 ∷ zeros 15 ++ 1 ∷ []))
          ∷ now (address (address_octets (V6 1 1) ++ 5 ∷ zeros 16))
          -- the last of 16 entries is tested too
          ∷ now (address (joined address_octets (replicate 15 (V4 1)) ++ 5 ∷ zeros 16))
          ∷ now (address (joined address_octets (replicate 15 (V4 1)) ++ 4 ∷ zeros 15 ++ 1 ∷ []))
          ∷ now (address (joined address_octets (replicate 17 (V4 1)))) ∷ now (address (joined address_octets (replicate 16 (V4 1)))) ∷ [];
      says = replicate 7 (declined 8) ++ acts (Action.Chose (V4 1) 0) ∷ [];
    }
    -- NAS has 1 to 2,048 octets and AN-parameters 0 to 1,024, the first reply of a session needs some
    ∷ record {
      before = to_first;
      calls =
          now (reply parameters [] 3090) ∷ now (reply parameters (zeros 2049) 3090) ∷ now (reply (zeros 1025) nas 3090)
          ∷ now (reply [] nas 3090) ∷ now (reply (zeros 1024) (zeros 2048) 3090) ∷ [];
      says =
          replicate 4 (declines 3090 8)
          ++ writes 3090 (Action.SendResponse 3090) []
          ((0x02 ∷ 0x07 ∷ 0x0C ∷ 0x12 ∷ 0xFE ∷ 0x00 ∷ 0x28 ∷ 0xAF ∷ 0x00 ∷ 0x00 ∷ 0x00 ∷ 0x03 ∷ 0x02 ∷ 0x00 ∷ 0x04 ∷ 0x00 ∷ zeros 1024)
          ++ 0x08 ∷ 0x00 ∷ zeros 2048)
          ∷ [];
    }
    -- error notify 1 to 16,383, a timer octet, and flags 0 or 1; unauthenticated congestion is 10 after 8 for its numbers
    ∷ record {
      before = to_sure;
      calls =
          now (error 0) ∷ now (error 16384) ∷ now (congestion 2 0x61) ∷ now (congestion 1 256) ∷ now (congestion 0 256) ∷ now (final 2)
          ∷ now (congestion 0 0x61) ∷ [];
      says = replicate 6 (declined 8) ++ declined 10 ∷ [];
    }
    -- child made: SPI from 256 to 8 hex digits, session 1 to 15; child deleted tests no range
    ∷ record {
      before = to_live;
      calls =
          now (child_made 255 1) ∷ now (child_made 4294967296 1) ∷ now (child_made 256 0) ∷ now (child_made 256 16)
          ∷ now (child_deleted 4294967296) ∷ now (child_made 256 1) ∷ now (child_made 4294967295 15) ∷ [];
      says = replicate 4 (declined 8) ++ declined 10 ∷ acts Action.Nothing ∷ acts Action.Nothing ∷ [];
    }
    ∷ []

pub ranges_computed : map got ranges ≡ map said ranges
unfolding ranges got said
ranges_computed = refl
