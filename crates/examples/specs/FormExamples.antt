-- Histories of well-formed and ill-formed texts and packets, and of children, each under the sentence that it shows.
use Rattle.std.specs.Prelude.{ℕ, ◌+◌, List, [], ◌∷◌, ◌++◌, map, ◌≡◌, refl, replicate}
use Prim.Native.String.{String}
use Rattle.octets.specs.Digits.{be}
use Rattle.octets.specs.Part.{zeros}
use Rattle.octets.specs.Row.{joined, row}
use Rattle.text.specs.Text.{digit_text, text}
use Rattle.rules.specs.Answer.{Answer}
use Rattle.rules.specs.declared.Action.TheVariants as Action
use Rattle.rules.specs.Call.{start, country, eap, reply, child_made, child_deleted, Call, start_numbers}
use Rattle.examples.specs.Cases.{acts, at_home, declined, declines, nas, now, plain, shown, to_answered, to_auth, to_country, to_first, to_idle, to_live, writes, later_reply}
use Rattle.examples.specs.Computed.{Example, got, said}

-- a start by the records of its text
unfoldable pub start_by : List String → Call
unfolding at_home now shown
start_by records = now (start at_home (joined shown records) 64)

unfoldable pub start_refused : List String → Answer
unfolding declines
start_refused records = declines 64 9

-- a record too few, too many, out of order or out of its form
unfoldable pub ill_formed : List (List String)
ill_formed =
    []
    ∷ ("home|262" ∷ [])
    ∷ ("home|262|01|" ∷ [])
    ∷ ("home|26|01" ∷ [])
    ∷ ("home|2620|01" ∷ [])
    ∷ ("home|262|1" ∷ [])
    ∷ ("home|262|0001" ∷ [])
    ∷ ("home|2a2|01" ∷ [])
    ∷ ("home|262|0a" ∷ [])
    ∷ ("home|262|0:" ∷ [])
    ∷ ("home|262|0/" ∷ [])
    ∷ ("Home|262|01" ∷ [])
    ∷ ("home 262 01" ∷ [])
    ∷ ("node|v4|c0000207" ∷ [])
    ∷ ("home|262|01" ∷ "" ∷ [])
    ∷ ("home|262|01" ∷ "home|262|01" ∷ [])
    ∷ ("home|262|01" ∷ "node|name|" ∷ [])
    ∷ ("home|262|01" ∷ "node|name|a_b" ∷ [])
    ∷ ("home|262|01" ∷ "node|name|a/b" ∷ [])
    ∷ ("home|262|01" ∷ "node|name|a:b" ∷ [])
    ∷ ("home|262|01" ∷ "node|name|a@b" ∷ [])
    ∷ ("home|262|01" ∷ "node|name|a[b" ∷ [])
    ∷ ("home|262|01" ∷ "node|name|a`b" ∷ [])
    ∷ ("home|262|01" ∷ "node|name|a{b" ∷ [])
    ∷ ("home|262|01" ∷ "node|name|a,b" ∷ [])
    ∷ ("home|262|01" ∷ "node|v4|c000020" ∷ [])
    ∷ ("home|262|01" ∷ "node|v4|C0000207" ∷ [])
    ∷ ("home|262|01" ∷ "node|v6|c0000207" ∷ [])
    ∷ ("home|262|01" ∷ "node|v5|20010db8000000000000000000000001" ∷ [])
    ∷ ("home|262|01" ∷ "node|v4|c0000207" ∷ "node|v4|c0000208" ∷ [])
    ∷ ("home|262|01" ∷ "plmn|901|01" ∷ [])
    ∷ ("home|262|01" ∷ "plmn|901|01|256" ∷ [])
    ∷ ("home|262|01" ∷ "plmn|901|01|00" ∷ [])
    ∷ ("home|262|01" ∷ "plmn|901|01|05" ∷ [])
    ∷ ("home|262|01" ∷ "plmn|901|01|" ∷ [])
    ∷ ("home|262|01" ∷ "plmn|901|01|1|op" ∷ [])
    ∷ ("home|262|01" ∷ "bar|901|01|5" ∷ [])
    ∷ ("home|262|01" ∷ "plmn|901|01|1" ∷ "plmn|901|001|2" ∷ [])
    ∷ ("home|262|01" ∷ "plmn|901|01|1" ∷ "plmn|902|01|1" ∷ "plmn|901|001|2" ∷ [])
    ∷ ("home|262|01" ∷ "bar|901|01" ∷ "bar|901|001" ∷ [])
    ∷ ("home|262|01" ∷ "bar|901|01" ∷ "bar|902|01" ∷ "bar|901|001" ∷ [])
    ∷ ("home|262|01" ∷ "bar|901|01" ∷ "plmn|902|01|1" ∷ [])
    ∷ ("home|262|01" ∷ "plmn|901|01|1" ∷ "node|v4|c0000207" ∷ [])
    ∷ []

-- n `plmn` records and m `bar` records
unfoldable pub plmn_record : ℕ → List ℕ
plmn_record k = text "plmn" ++ 9 ∷ text "901" ++ 9 ∷ digit_text 10 3 k ++ 9 ∷ text "255" ++ 10 ∷ []

unfoldable pub bar_record : ℕ → List ℕ
bar_record k = text "bar" ++ 9 ∷ text "901" ++ 9 ∷ digit_text 10 3 k ++ 10 ∷ []

unfoldable pub start_full : ℕ → ℕ → Call
unfolding at_home bar_record now plain plmn_record
start_full n m = now (start at_home (plain ++ joined plmn_record (row (λ k. k) 0 n) ++ joined bar_record (row (λ k. k) 0 m)) 64)

-- a name of n letters
unfoldable pub start_named : ℕ → Call
unfolding at_home now plain
start_named n = now (start at_home (plain ++ text "node" ++ 9 ∷ text "name" ++ 9 ∷ replicate n 97 ++ 10 ∷ []) 64)

-- a name with an octet between two letters
unfoldable pub start_named_with : ℕ → Call
unfolding at_home now plain
start_named_with c = now (start at_home (plain ++ text "node" ++ 9 ∷ text "name" ++ 9 ∷ 97 ∷ c ∷ 98 ∷ 10 ∷ []) 64)

-- an EAP-5G packet with identifier 7 by its code, length, type, last octet of the vendor, message, spare, and what follows
unfoldable pub packet : ℕ → ℕ → ℕ → ℕ → ℕ → ℕ → List ℕ → Call
unfolding now
packet code size type vendor message spare rest =
    now (eap (code ∷ 7 ∷ 0 ∷ size ∷ type ∷ 0x00 ∷ 0x28 ∷ vendor ∷ 0 ∷ 0 ∷ 0 ∷ 3 ∷ message ∷ spare ∷ rest))

-- a NAS request with n NAS octets
unfoldable pub nas_request : ℕ → Call
unfolding now
nas_request n = now (eap ((0x01 ∷ 7 ∷ []) ++ be 2 (16 + n) ++ (0xFE ∷ 0x00 ∷ 0x28 ∷ 0xAF ∷ 0 ∷ 0 ∷ 0 ∷ 3 ∷ 2 ∷ 0 ∷ []) ++ be 2 n ++ zeros n))

-- children by their SPI
unfoldable pub make_child : ℕ → Call
unfolding now
make_child spi = now (child_made spi 1)

unfoldable pub forms : List Example
unfolding acts at_home declined declines start_numbers ill_formed later_reply make_child nas nas_request now packet start_by start_full start_named start_named_with
    start_refused to_answered to_auth to_country to_first to_idle to_live writes
forms =
    -- 9: a configuration text that isn't well formed
    record { before = to_idle; calls = map start_by ill_formed; says = map start_refused ill_formed }
    -- also where the place is unknown or the country query got no reply
    ∷ record {
      before = to_country;
      calls = now (start (start_numbers 0 0 0 0 0 4) [] 64) ∷ now (country 0 [] [] 64) ∷ [];
      says = declines 64 9 ∷ declines 64 9 ∷ [];
    }
    -- each record is ended by one newline
    ∷ record {
      before = to_idle;
      calls = now (start at_home (text "home" ++ 9 ∷ text "262" ++ 9 ∷ text "01") 64) ∷ [];
      says = declines 64 9 ∷ [];
    }
    -- `plmn` and `bar` at most 16 times each
    ∷ record {
      before = to_idle;
      calls = start_full 17 16 ∷ start_full 16 17 ∷ start_full 16 16 ∷ [];
      says =
          declines 64 9 ∷ declines 64 9
          ∷ writes 64 (Action.AskBuilt 43) (text "n3iwf.5gc.mnc001.mcc262.pub.3gppnetwork.org") (text "n3iwf.5gc.mnc001.mcc262.pub.3gppnetwork.org")
          ∷ [];
    }
    -- a name has letters of either case, digits, hyphens and dots; an MNC has two digits or three
    ∷ record {
      before = to_idle;
      calls =
          start_by ("home|262|001" ∷ "node|name|N3-iwf.x" ∷ "plmn|901|01|0" ∷ "plmn|901|100|255" ∷ "bar|901|01" ∷ [])
          ∷ [];
      says = writes 64 (Action.AskText 23 8) (text "N3-iwf.x") [] ∷ [];
    }
    ∷ record {
      before = to_idle;
      calls = start_by ("home|262|01" ∷ "node|name|-AZaz09." ∷ []) ∷ [];
      says = writes 64 (Action.AskText 22 8) (text "-AZaz09.") [] ∷ [];
    }
    -- and no other octet, neither a space nor one above 127
    ∷ record {
      before = to_idle;
      calls = map start_named_with (0 ∷ 9 ∷ 10 ∷ 13 ∷ 31 ∷ 32 ∷ 33 ∷ 127 ∷ 128 ∷ 173 ∷ 176 ∷ 193 ∷ 200 ∷ 225 ∷ 255 ∷ []);
      says = replicate 15 (declines 64 9);
    }
    -- and 1 to 253 of them
    ∷ record {
      before = to_idle;
      calls = start_named 254 ∷ start_named 253 ∷ [];
      says = declines 64 9 ∷ writes 64 (Action.AskText 22 253) (replicate 253 97) [] ∷ [];
    }
    -- 9: every packet but Start, NAS requests and Success, here with another code, length, type, vendor or message
    ∷ record {
      before = to_auth;
      calls =
          packet 3 14 254 0xAF 1 0 [] ∷ packet 1 13 254 0xAF 1 0 [] ∷ packet 1 14 253 0xAF 1 0 [] ∷ packet 1 14 254 0xAE 1 0 []
          ∷ packet 1 14 254 0xAF 3 0 [] ∷ packet 2 14 254 0xAF 4 0 [] ∷ now (eap later_reply) ∷ now (eap []) ∷ now (eap (4 ∷ 7 ∷ 0 ∷ 4 ∷ []))
          ∷ now (eap (3 ∷ 7 ∷ 0 ∷ 5 ∷ [])) ∷ now (eap (3 ∷ 7 ∷ 0 ∷ 5 ∷ 0 ∷ [])) ∷ now (eap (3 ∷ 7 ∷ 0 ∷ 4 ∷ 0 ∷ []))
          -- another octet of the vendor, and another vendor type
          ∷ now (eap (0x01 ∷ 7 ∷ 0 ∷ 14 ∷ 0xFE ∷ 0x01 ∷ 0x28 ∷ 0xAF ∷ 0 ∷ 0 ∷ 0 ∷ 3 ∷ 1 ∷ 0 ∷ []))
          ∷ now (eap (0x01 ∷ 7 ∷ 0 ∷ 14 ∷ 0xFE ∷ 0x00 ∷ 0x29 ∷ 0xAF ∷ 0 ∷ 0 ∷ 0 ∷ 3 ∷ 1 ∷ 0 ∷ []))
          ∷ now (eap (0x01 ∷ 7 ∷ 0 ∷ 14 ∷ 0xFE ∷ 0x00 ∷ 0x28 ∷ 0xAF ∷ 0 ∷ 0 ∷ 0 ∷ 4 ∷ 1 ∷ 0 ∷ []))
          ∷ now (eap (0x01 ∷ 7 ∷ 0 ∷ 14 ∷ 0xFE ∷ 0x00 ∷ 0x28 ∷ 0xAF ∷ 1 ∷ 0 ∷ 0 ∷ 3 ∷ 1 ∷ 0 ∷ []))
          -- Start without its spare octet
          ∷ now (eap (0x01 ∷ 7 ∷ 0 ∷ 13 ∷ 0xFE ∷ 0x00 ∷ 0x28 ∷ 0xAF ∷ 0 ∷ 0 ∷ 0 ∷ 3 ∷ 1 ∷ []))
          -- a response with message 1, a request with message 4, and a length field above the lent length
          ∷ packet 2 14 254 0xAF 1 0 [] ∷ packet 1 14 254 0xAF 4 0 [] ∷ packet 1 15 254 0xAF 1 0 [] ∷ [];
      says = replicate 20 (declined 9);
    }
    -- NAS that is empty or runs past the end is 9
    ∷ record {
      before = to_answered;
      calls = packet 1 16 254 0xAF 2 0 (0 ∷ 0 ∷ []) ∷ packet 1 17 254 0xAF 2 0 (0 ∷ 2 ∷ 0x7E ∷ []) ∷ packet 1 14 254 0xAF 2 0 [] ∷ [];
      says = replicate 3 (declined 9);
    }
    -- a response with message 2 that goes on with NAS alone, and a length field above or below the lent length, are 9 here too
    ∷ record {
      before = to_answered;
      calls =
          packet 2 17 254 0xAF 2 0 (0 ∷ 1 ∷ 0x7E ∷ []) ∷ packet 1 18 254 0xAF 2 0 (0 ∷ 1 ∷ 0x7E ∷ []) ∷ packet 1 16 254 0xAF 2 0 (0 ∷ 1 ∷ 0x7E ∷ [])
          ∷ [];
      says = replicate 3 (declined 9);
    }
    -- NAS has at most 2,048 octets, longer is 9
    ∷ record {
      before = to_answered;
      calls = nas_request 2049 ∷ nas_request 2048 ∷ [];
      says = declined 9 ∷ writes 0 (Action.HandUp 16 2048) (zeros 2048) [] ∷ [];
    }
    -- extensions are skipped and spare is ignored, in Start too; NAS is handed up as the part of the packet that holds it
    ∷ record { before = to_auth; calls = packet 1 16 254 0xAF 1 0 (9 ∷ 9 ∷ []) ∷ []; says = acts Action.AskNas ∷ [] }
    ∷ record { before = to_auth; calls = packet 1 14 254 0xAF 1 1 [] ∷ []; says = acts Action.AskNas ∷ [] }
    ∷ record {
      before = to_answered;
      calls = packet 1 20 254 0xAF 2 1 (0 ∷ 3 ∷ 0x7E ∷ 0x00 ∷ 0x41 ∷ 9 ∷ []) ∷ [];
      says = writes 0 (Action.HandUp 16 3) (0x7E ∷ 0x00 ∷ 0x41 ∷ []) [] ∷ [];
    }
    -- an AN block that doesn't end exactly is 9
    ∷ record {
      before = to_first;
      calls = now (reply (1 ∷ []) nas 3090) ∷ now (reply (1 ∷ 2 ∷ 0xAA ∷ []) nas 3090) ∷ now (reply (1 ∷ 0 ∷ 1 ∷ []) nas 3090) ∷ [];
      says = replicate 3 (declines 3090 9);
    }
    -- the eighth child is accepted and the ninth is 12, below it 11; a deleted one makes room
    ∷ record {
      before = to_live ++ row make_child 0x100 7;
      calls = make_child 0x103 ∷ make_child 0x107 ∷ make_child 0x108 ∷ make_child 0x103 ∷ now (child_deleted 0x103) ∷ make_child 0x108 ∷ [];
      says = declined 11 ∷ acts Action.Nothing ∷ declined 12 ∷ declined 11 ∷ acts Action.Nothing ∷ acts Action.Nothing ∷ [];
    }
    ∷ []

pub forms_computed : map got forms ≡ map said forms
unfolding forms got said
forms_computed = refl
