-- The calls on the table: their numbers, the octets that are lent with them, and how many octets their answer buffers have.
use Rattle.std.specs.Prelude.{ℕ, suc, ◌+◌, ◌*◌, Bool, cond, ◌&&◌, ◌||◌, List, [], ◌++◌, leb, eqb, Option, None, Some}
use Rattle.record.specs.Sound.{last_line}
use Rattle.network.specs.Plmn.{most_code}
use Rattle.address.specs.Address.{is_version}
use Rattle.network.specs.declared.Plmn.{Plmn}
use Rattle.place.specs.declared.Facts.{Facts}
use Rattle.place.specs.declared.Place.{Place}
use Rattle.place.specs.declared.Place.TheVariants.{Unknown, Home, Abroad}
use Rattle.rules.specs.declared.StartNumbers.{StartNumbers}

-- a listing is written to a buffer of at least so many octets
abbrev pub listing_room : ℕ
listing_room = 1024

-- a configuration text has at most so many octets
abbrev pub most_text : ℕ
most_text = 1024

-- an error notify has a number of at most so much
abbrev pub most_error : ℕ
most_error = 16_383

-- the last time that a call may carry
abbrev pub last_time : ℕ
last_time = 4_294_967_295

-- what happens on an open line, in the order of 'Life of a line'
pub data Event : Type 0 where
  -- its numbers, the configuration text, and the octets of the name buffer
  start : StartNumbers → List ℕ → ℕ → Event
  -- whether there is a reply, the networks, the text, and the octets of the name buffer
  country : ℕ → List ℕ → List ℕ → ℕ → Event
  -- the addresses
  address : List ℕ → Event
  begin : Event
  init : Event
  -- the packet
  eap : List ℕ → Event
  -- AN-parameters, NAS, and the octets of the reply buffer
  reply : List ℕ → List ℕ → ℕ → Event
  -- whether AUTH is good
  final : ℕ → Event
  -- the error's number
  error : ℕ → Event
  -- whether the network is authenticated, and the timer octet
  congestion : ℕ → ℕ → Event
  give_up : Event
  -- SPI and session
  child_made : ℕ → ℕ → Event
  -- SPI
  child_deleted : ℕ → Event
  ike_delete : Event

-- tenant and line come first; a timed call carries its time, a listing the octets of its buffer
pub data Call : Type 0 where
  opening : ℕ → ℕ → Call
  closing : ℕ → ℕ → Call
  listing : ℕ → ℕ → Call
  timed : ℕ → ℕ → ℕ → Event → Call

unfoldable pub tenant_of : Call → ℕ
tenant_of (opening tenant line) = tenant
tenant_of (closing tenant line) = tenant
tenant_of (listing tenant room) = tenant
tenant_of (timed tenant line time e) = tenant

-- the octets that are lent with a call
unfoldable pub event_octets : Event → List ℕ
event_octets (start g text room) = text
event_octets (country replied networks text room) = networks ++ text
event_octets (address addresses) = addresses
event_octets begin = []
event_octets init = []
event_octets (eap packet) = packet
event_octets (reply parameters nas room) = parameters ++ nas
event_octets (final good) = []
event_octets (error number) = []
event_octets (congestion authenticated timer) = []
event_octets give_up = []
event_octets (child_made spi session) = []
event_octets (child_deleted spi) = []
event_octets ike_delete = []

unfoldable pub lent_octets : Call → List ℕ
lent_octets (opening tenant line) = []
lent_octets (closing tenant line) = []
lent_octets (listing tenant room) = []
lent_octets (timed tenant line time e) = event_octets e

-- the number of a pair (tenant, line) in its record
unfoldable pub pair_of : ℕ → ℕ → ℕ
pair_of tenant line = suc (suc last_line * tenant + line)

-- the numbers of a start in their order: place, visited MCC, whether registered, MCC and MNC, local IP version
unfoldable pub start_numbers : ℕ → ℕ → ℕ → ℕ → ℕ → ℕ → StartNumbers
start_numbers place mcc registered rmcc rmnc version = record {
  place = place;
  mcc = mcc;
  registered = registered;
  registered_mcc = rmcc;
  registered_mnc = rmnc;
  version = version;
}

-- MCC and MNC 0 to 999, local IP version 4 or 6, place one of three, a flag 0 or 1; a number that a call does not have is 0
unfoldable pub start_numbers_fit : StartNumbers → Bool
start_numbers_fit g =
    leb g.place 2 && leb g.mcc most_code && (eqb g.place 2 || eqb g.mcc 0)
    && leb g.registered 1 && leb g.registered_mcc most_code && leb g.registered_mnc most_code
    && (eqb g.registered 1 || eqb g.registered_mcc 0 && eqb g.registered_mnc 0)
    && is_version g.version

-- the facts that a start's numbers say; a place that is none of the three is refused by 8
unfoldable pub place_of : ℕ → ℕ → Place
place_of place mcc = cond (eqb place 1) Home (cond (eqb place 2) (Abroad mcc) Unknown)

unfoldable pub registered_of : ℕ → ℕ → ℕ → Option Plmn
registered_of registered mcc mnc = cond (eqb registered 1) (Some (record { mcc = mcc; mnc = mnc })) None

unfoldable pub facts_of : StartNumbers → Facts
facts_of g = record {
  place = place_of g.place g.mcc;
  registered = registered_of g.registered g.registered_mcc g.registered_mnc;
  version = g.version;
}
