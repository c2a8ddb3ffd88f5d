-- Histories of 'Choosing a gateway', S1 to S5, with the part and the name buffer whole, each under the sentence that it shows.
use Rattle.std.specs.Prelude.{ℕ, List, [], ◌∷◌, ◌++◌, map, ◌≡◌, refl, replicate}
use Prim.Native.String.{String}
use Rattle.octets.specs.Part.{zeros}
use Rattle.address.specs.declared.Address.{Address}
use Rattle.address.specs.declared.Address.TheVariants.{V4, V6}
use Rattle.addresses.specs.Addresses.{address_octets}
use Rattle.octets.specs.Row.{joined, row}
use Rattle.text.specs.Text.{text}
use Rattle.rules.specs.Answer.{Answer}
use Rattle.rules.specs.declared.Action.{Action}
use Rattle.rules.specs.Call.{start, country, address, Call, start_numbers}
use Rattle.rules.specs.declared.StartNumbers.{StartNumbers}
use Rattle.examples.specs.Cases.{abroad, abroad6, acts, at_home, at_home6, congest, named, network, node, node6, now, plain, registered_to, roaming, shown, to_idle, to_name, writes}
use Rattle.examples.specs.Computed.{Example, got, said}
use Rattle.examples.specs.FormExamples.{bar_record, plmn_record}
use Rattle.selection.specs.declared.Stop.TheVariants as At

-- a stop and a choice leave the name buffer all zeros and the part empty; a built name is both the part and what is written
unfoldable pub gives : Action → Answer
unfolding writes
gives action = writes 64 action [] []

unfoldable pub asks : String → Answer
unfolding writes
asks name = writes 64 (Action.AskBuilt 43) (text name) (text name)

unfoldable pub asks_country : String → Answer
unfolding writes
asks_country name = writes 64 (Action.AskCountry 52) (text name) (text name)

-- what start answers
unfoldable pub starting : StartNumbers → List ℕ → Answer → Example
unfolding now to_idle
starting g text answer = record { before = to_idle; calls = now (start g text 64) ∷ []; says = answer ∷ [] }

-- a start, and the country answer without a PLMN that follows it
unfoldable pub starts : StartNumbers → List ℕ → List Call
unfolding now to_idle
starts g text = to_idle ++ now (start g text 64) ∷ []

unfoldable pub starts_abroad : StartNumbers → List ℕ → List Call
unfolding now starts
starts_abroad g text = starts g text ++ now (country 1 [] text 64) ∷ []

-- what the country answer answers, with the text that start had
unfoldable pub answering : StartNumbers → List ℕ → ℕ → List ℕ → Answer → Example
unfolding now starts
answering g text replied networks answer = record {
  before = starts g text;
  calls = now (country replied networks text 64) ∷ [];
  says = answer ∷ [];
}

-- what the country answer answers abroad in 901, with a text that start did not have
unfoldable pub answering_by : List ℕ → List ℕ → Answer → Example
unfolding abroad now plain starts
answering_by networks text answer = record {
  before = starts (abroad 901) plain;
  calls = now (country 1 networks text 64) ∷ [];
  says = answer ∷ [];
}

-- `home` and 16 `plmn` records, the last of the best priority; 16 `bar` records, the last for that PLMN
unfoldable pub preferring : List ℕ
unfolding plain plmn_record shown
preferring = plain ++ joined plmn_record (row (λ k. k) 100 15) ++ shown "plmn|901|115|254"

unfoldable pub barring : List ℕ
unfolding bar_record
barring = joined bar_record (row (λ k. k) 200 15) ++ bar_record 115

-- what the address answer answers after some calls
unfoldable pub choosing : List Call → List Address → Action → Example
unfolding acts now
choosing before list action = record { before = before; calls = now (address (joined address_octets list)) ∷ []; says = acts action ∷ [] }

unfoldable pub selections : List Example
unfolding abroad abroad6 answering answering_by asks asks_country at_home at_home6 barring congest start_numbers gives choosing named network node node6 now
    plain preferring registered_to roaming shown starting starts starts_abroad to_idle to_name writes
selections =
    -- S1, place unknown: stop 1
    starting (start_numbers 0 0 0 0 0 4) node (gives (Action.Stopped At.Place 0))
    -- S2, home: a `node` address is treated as an answer list of one
    ∷ starting at_home node (gives (Action.Chose (V4 0xc0000207) 0))
    ∷ starting at_home6 node (gives (Action.Stopped At.Address 1))
    -- a `node` name is asked, as the part of the text that holds it, and the name buffer is all zeros
    ∷ starting at_home named (writes 64 (Action.AskText 22 13) (text "n3iwf.example") [])
    -- whatever PLMN is registered to, also one with a `plmn` record
    ∷ starting (start_numbers 1 0 1 901 2 4) named (writes 64 (Action.AskText 22 13) (text "n3iwf.example") [])
    ∷ starting (start_numbers 1 0 1 901 2 4) (named ++ shown "plmn|901|02|0") (writes 64 (Action.AskText 22 13) (text "n3iwf.example") [])
    -- without `node`, the operator name of the home PLMN is asked, even with a `bar` record
    ∷ starting at_home plain (asks "n3iwf.5gc.mnc001.mcc262.pub.3gppnetwork.org")
    -- with all three digits of its MNC, and whatever PLMN is registered to
    ∷ starting at_home (shown "home|310|410") (asks "n3iwf.5gc.mnc410.mcc310.pub.3gppnetwork.org")
    ∷ starting (start_numbers 1 0 1 901 2 4) plain (asks "n3iwf.5gc.mnc001.mcc262.pub.3gppnetwork.org")
    ∷ starting (start_numbers 1 0 1 901 2 4) roaming (asks "n3iwf.5gc.mnc001.mcc262.pub.3gppnetwork.org")
    ∷ starting at_home (plain ++ shown "bar|262|001") (asks "n3iwf.5gc.mnc001.mcc262.pub.3gppnetwork.org")
    -- the octets past the written part are zeros, in a longer buffer too
    ∷ record {
      before = to_idle;
      calls = now (start at_home plain 100) ∷ [];
      says =
          writes 100 (Action.AskBuilt 43) (text "n3iwf.5gc.mnc001.mcc262.pub.3gppnetwork.org") (text "n3iwf.5gc.mnc001.mcc262.pub.3gppnetwork.org")
          ∷ [];
    }
    -- S3, registered PLMN not barred and with a `plmn` record: its operator name; PLMNs are compared as numbers
    ∷ starting (registered_to 901 2) roaming (asks "n3iwf.5gc.mnc002.mcc901.pub.3gppnetwork.org")
    ∷ starting (registered_to 901 3) roaming (asks "n3iwf.5gc.mnc003.mcc901.pub.3gppnetwork.org")
    ∷ starting (registered_to 902 1) roaming (asks "n3iwf.5gc.mnc001.mcc902.pub.3gppnetwork.org")
    -- the last of 16 `plmn` records counts, and so does the last of 16 `bar` records, which leads to S4
    ∷ starting (registered_to 901 115) preferring (asks "n3iwf.5gc.mnc115.mcc901.pub.3gppnetwork.org")
    ∷ starting (registered_to 901 115) (preferring ++ barring) (asks_country "n3iwf.5gc.mcc901.visited-country.pub.3gppnetwork.org")
    -- S4 otherwise: not registered, barred, without a record, or registered to the home PLMN, which counts as none
    ∷ starting (abroad 901) roaming (asks_country "n3iwf.5gc.mcc901.visited-country.pub.3gppnetwork.org")
    ∷ starting (registered_to 901 4) roaming (asks_country "n3iwf.5gc.mcc901.visited-country.pub.3gppnetwork.org")
    ∷ starting (registered_to 901 9) roaming (asks_country "n3iwf.5gc.mcc901.visited-country.pub.3gppnetwork.org")
    ∷ starting (registered_to 262 1) (plain ++ shown "plmn|262|01|0") (asks_country "n3iwf.5gc.mcc901.visited-country.pub.3gppnetwork.org")
    -- no reply: stop 2, and not "no PLMN"
    ∷ answering (abroad 901) roaming 0 [] (gives (Action.Stopped At.NoReply 0))
    -- none: the best of the `plmn` records with the visited MCC and not barred, the earlier record on a tie
    ∷ answering (abroad 901) roaming 1 [] (asks "n3iwf.5gc.mnc002.mcc901.pub.3gppnetwork.org")
    -- and not the registered PLMN
    ∷ answering (registered_to 901 9) roaming 1 [] (asks "n3iwf.5gc.mnc002.mcc901.pub.3gppnetwork.org")
    -- also where the call's own text has an unbarred record of it
    ∷ record {
      before = starts (registered_to 901 1) plain;
      calls = now (country 1 [] (plain ++ shown "plmn|901|01|5" ++ shown "plmn|901|02|3") 64) ∷ [];
      says = asks "n3iwf.5gc.mnc002.mcc901.pub.3gppnetwork.org" ∷ [];
    }
    -- priorities are compared as numbers, of one digit, two or three
    ∷ answering (abroad 901) (plain ++ shown "plmn|901|01|10" ++ shown "plmn|901|02|9") 1 [] (asks "n3iwf.5gc.mnc002.mcc901.pub.3gppnetwork.org")
    ∷ answering (abroad 901) (plain ++ shown "plmn|901|01|100" ++ shown "plmn|901|02|99") 1 [] (asks "n3iwf.5gc.mnc002.mcc901.pub.3gppnetwork.org")
    -- the best is the last of 16 records, and where the last of 16 `bar` records bars it, the first of the others
    ∷ answering_by [] preferring (asks "n3iwf.5gc.mnc115.mcc901.pub.3gppnetwork.org")
    ∷ answering_by [] (preferring ++ barring) (asks "n3iwf.5gc.mnc100.mcc901.pub.3gppnetwork.org")
    -- and before a `node` name or address
    ∷ answering (abroad 901) (named ++ shown "plmn|901|01|5") 1 [] (asks "n3iwf.5gc.mnc001.mcc901.pub.3gppnetwork.org")
    ∷ answering (abroad 901) (node ++ shown "plmn|901|01|5") 1 [] (asks "n3iwf.5gc.mnc001.mcc901.pub.3gppnetwork.org")
    -- none, and no such record: as S2
    ∷ answering (abroad 903) roaming 1 [] (asks "n3iwf.5gc.mnc001.mcc262.pub.3gppnetwork.org")
    ∷ answering (abroad 901) named 1 [] (writes 64 (Action.AskText 22 13) (text "n3iwf.example") [])
    ∷ answering (abroad 901) node 1 [] (gives (Action.Chose (V4 0xc0000207) 0))
    ∷ answering (abroad6 901) node6 1 [] (gives (Action.Chose (V6 0x20010db800000000 1) 0))
    -- also where the only `plmn` record is one of another country, or barred
    ∷ answering (abroad 901) (named ++ shown "plmn|902|01|0") 1 [] (writes 64 (Action.AskText 22 13) (text "n3iwf.example") [])
    ∷ answering (abroad 901) (named ++ shown "plmn|901|04|0" ++ shown "bar|901|04") 1 [] (writes 64 (Action.AskText 22 13) (text "n3iwf.example") [])
    -- a `node` address that is not permitted is stop 4 with 1 passed over, here too
    ∷ answering (abroad6 901) node 1 [] (gives (Action.Stopped At.Address 1))
    ∷ answering (abroad6 903) (node ++ shown "plmn|901|01|5") 1 [] (gives (Action.Stopped At.Address 1))
    ∷ answering (abroad 901) node6 1 [] (gives (Action.Stopped At.Address 1))
    -- one or more: the registered PLMN if listed and not barred
    ∷ answering (registered_to 901 9) roaming 1 (network 901 2 ++ network 901 9) (asks "n3iwf.5gc.mnc009.mcc901.pub.3gppnetwork.org")
    ∷ answering (registered_to 901 4) roaming 1 (network 901 4 ++ network 901 1) (asks "n3iwf.5gc.mnc001.mcc901.pub.3gppnetwork.org")
    ∷ answering (registered_to 901 9) roaming 1 (network 901 1 ++ network 901 8) (asks "n3iwf.5gc.mnc001.mcc901.pub.3gppnetwork.org")
    -- whatever the local IP version, with `plmn` records and without
    ∷ answering (start_numbers 2 901 1 901 9 6) plain 1 (network 901 8 ++ network 901 9) (asks "n3iwf.5gc.mnc009.mcc901.pub.3gppnetwork.org")
    ∷ answering (start_numbers 2 901 1 901 9 6) roaming 1 (network 901 2 ++ network 901 9) (asks "n3iwf.5gc.mnc009.mcc901.pub.3gppnetwork.org")
    -- the home PLMN counts as none, here too
    ∷ answering (registered_to 262 1) plain 1 (network 901 8 ++ network 262 1) (asks "n3iwf.5gc.mnc008.mcc901.pub.3gppnetwork.org")
    -- whether the registered PLMN counts as none is decided by each call's own text
    ∷ record {
      before = starts (registered_to 262 1) plain;
      calls = now (country 1 (network 262 2 ++ network 262 1) (shown "home|263|01") 64) ∷ [];
      says = asks "n3iwf.5gc.mnc001.mcc262.pub.3gppnetwork.org" ∷ [];
    }
    -- else the listed, unbarred PLMN of best priority, on a tie the earlier record and not the earlier in the list
    ∷ answering (abroad 901) roaming 1 (network 901 8 ++ network 901 1 ++ network 901 3) (asks "n3iwf.5gc.mnc003.mcc901.pub.3gppnetwork.org")
    ∷ answering (abroad 901) roaming 1 (network 901 3 ++ network 901 2) (asks "n3iwf.5gc.mnc002.mcc901.pub.3gppnetwork.org")
    -- also the last of 16 records
    ∷ answering_by (network 901 100 ++ network 901 115) preferring (asks "n3iwf.5gc.mnc115.mcc901.pub.3gppnetwork.org")
    -- a listed PLMN of another country counts like the others
    ∷ answering (abroad 901) roaming 1 (network 901 8 ++ network 902 1) (asks "n3iwf.5gc.mnc001.mcc902.pub.3gppnetwork.org")
    -- else the first listed unbarred one, else stop 3
    ∷ answering (abroad 901) roaming 1 (network 901 4 ++ network 901 8 ++ network 901 7) (asks "n3iwf.5gc.mnc008.mcc901.pub.3gppnetwork.org")
    ∷ answering (abroad 901) roaming 1 (network 901 4) (gives (Action.Stopped At.Barred 0))
    -- the last of 16 `bar` records counts, and so does the last of 16 listed PLMNs
    ∷ answering_by (network 901 115 ++ network 901 7) (plain ++ barring) (asks "n3iwf.5gc.mnc007.mcc901.pub.3gppnetwork.org")
    ∷ answering_by (joined (network 901) (row (λ k. k) 200 15) ++ network 901 7) (plain ++ barring) (asks "n3iwf.5gc.mnc007.mcc901.pub.3gppnetwork.org")
    -- a barred home PLMN that the country answer lists is barred
    ∷ answering (abroad 901) (plain ++ shown "bar|262|01") 1 (network 262 1) (gives (Action.Stopped At.Barred 0))
    -- S5: the first with the local IP version is chosen, and the answer says how many were passed over
    ∷ choosing to_name (V4 0xc0000207 ∷ V4 0xc0000208 ∷ []) (Action.Chose (V4 0xc0000207) 0)
    -- the first, and not a later one, also where some were passed over
    ∷ choosing to_name (V6 1 2 ∷ V4 0xc0000207 ∷ V4 0xc0000208 ∷ []) (Action.Chose (V4 0xc0000207) 1)
    ∷ choosing to_name (V6 1 2 ∷ V6 1 3 ∷ V4 0xc0000207 ∷ V4 0xc0000209 ∷ V4 0xc0000208 ∷ []) (Action.Chose (V4 0xc0000207) 2)
    ∷ choosing (starts at_home6 named) (V4 0xc0000207 ∷ V6 1 3 ∷ V6 1 2 ∷ []) (Action.Chose (V6 1 3) 1)
    -- the octets of an entry in the order of the address: 192.0.2.7 and 2001:db8::1
    ∷ record {
      before = to_name;
      calls = now (address (4 ∷ 0xC0 ∷ 0x00 ∷ 0x02 ∷ 0x07 ∷ zeros 12)) ∷ [];
      says = acts (Action.Chose (V4 0xc0000207) 0) ∷ [];
    }
    ∷ record {
      before = to_idle ++ now (start at_home6 named 64) ∷ [];
      calls = now (address (6 ∷ 0x20 ∷ 0x01 ∷ 0x0D ∷ 0xB8 ∷ zeros 11 ++ 1 ∷ [])) ∷ [];
      says = acts (Action.Chose (V6 0x20010db800000000 1) 0) ∷ [];
    }
    ∷ choosing to_name (V6 1 2 ∷ V6 1 3 ∷ V4 0xc0000207 ∷ []) (Action.Chose (V4 0xc0000207) 2)
    -- also more than two, and one address twice
    ∷ choosing to_name (V6 1 2 ∷ V6 1 2 ∷ V6 1 3 ∷ V4 0xc0000207 ∷ []) (Action.Chose (V4 0xc0000207) 3)
    ∷ choosing to_name (replicate 15 (V6 1 2) ++ V4 0xc0000207 ∷ []) (Action.Chose (V4 0xc0000207) 15)
    -- the local IP version is the start's, whichever name was asked, at home and abroad
    ∷ choosing (starts at_home6 named) (V4 0xc0000207 ∷ V6 1 3 ∷ []) (Action.Chose (V6 1 3) 1)
    ∷ choosing (starts at_home6 plain) (V4 0xc0000207 ∷ V6 1 3 ∷ []) (Action.Chose (V6 1 3) 1)
    ∷ choosing (starts_abroad (abroad6 901) plain) (V4 0xc0000207 ∷ V6 1 3 ∷ []) (Action.Chose (V6 1 3) 1)
    ∷ choosing (starts_abroad (abroad6 901) named) (V4 0xc0000207 ∷ V6 1 3 ∷ []) (Action.Chose (V6 1 3) 1)
    ∷ choosing (starts_abroad (abroad 901) plain) (V6 1 3 ∷ V4 0xc0000207 ∷ []) (Action.Chose (V4 0xc0000207) 1)
    ∷ choosing (starts (start_numbers 2 901 1 901 2 6) roaming) (V4 0xc0000207 ∷ V6 1 3 ∷ []) (Action.Chose (V6 1 3) 1)
    -- if there is none, stop 4 with all of them passed over
    ∷ choosing to_name [] (Action.Stopped At.Address 0)
    ∷ choosing to_name (V6 1 2 ∷ V6 1 3 ∷ []) (Action.Stopped At.Address 2)
    ∷ choosing to_name (replicate 16 (V6 1 2)) (Action.Stopped At.Address 16)
    -- one on hold is passed over
    ∷ choosing (to_idle ++ congest 100 0xc0000207 0xE0 ++ now (start at_home named 64) ∷ []) (V4 0xc0000207 ∷ V4 0xc0000208 ∷ [])
    (Action.Chose (V4 0xc0000208) 1)
    ∷ choosing (to_idle ++ congest 100 0xc0000207 0xE0 ++ now (start at_home named 64) ∷ []) (V4 0xc0000207 ∷ V4 0xc0000208 ∷ V4 0xc0000209 ∷ [])
    (Action.Chose (V4 0xc0000208) 1)
    ∷ []

pub selections_computed : map got selections ≡ map said selections
unfolding selections got said
selections_computed = refl
