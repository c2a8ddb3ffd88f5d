-- What a call answers, and the twelve numbers of each action.
use Rattle.std.specs.Prelude.{ℕ, ◌+◌, ◌≤◌, cond, List, [], ◌∷◌, eqb, length, get_or}
use Rattle.octets.specs.Part.{part, zeros}
use Rattle.address.specs.Address.{high, low, version_of}
use Rattle.rules.specs.Call.{Event, start, country, address, begin, init, eap, reply, final, error, congestion, give_up, child_made, child_deleted, ike_delete, Call, opening, closing, listing, timed}
use Rattle.selection.specs.Stop.{stop_number}
use Rattle.rules.specs.declared.Action.{Action}

-- the refusal number or 0, the twelve numbers, the octets of the returned part, the answer buffer whole
pub record Answer : Type 0 where
  pub refusal : ℕ
  pub numbers : List ℕ
  pub part : List ℕ
  pub buffer : List ℕ

-- how many numbers the answer of a timed call or a listing has
abbrev pub number_count : ℕ
number_count = 12

unfoldable pub twelve : ℕ → ℕ → ℕ → ℕ → ℕ → ℕ → ℕ → ℕ → ℕ → ℕ → ℕ → ℕ → List ℕ
twelve a b c d e f g h i j k l = a ∷ b ∷ c ∷ d ∷ e ∷ f ∷ g ∷ h ∷ i ∷ j ∷ k ∷ l ∷ []

-- action, stop, passed; the part: where it is, its start, its length; version, high, low; EAP ended, error, written
unfoldable pub numbers_of : Action → List ℕ
numbers_of Action.Nothing = twelve 0 0 0 0 0 0 0 0 0 0 0 0
numbers_of (Action.Stopped at k) = twelve 1 (stop_number at) k 0 0 0 0 0 0 0 0 0
numbers_of (Action.AskCountry n) = twelve 2 0 0 2 0 n 0 0 0 0 0 n
numbers_of (Action.AskText at n) = twelve 3 0 0 1 at n 0 0 0 0 0 0
numbers_of (Action.AskBuilt n) = twelve 3 0 0 2 0 n 0 0 0 0 0 n
numbers_of (Action.Chose a k) = twelve 4 0 k 0 0 0 (version_of a) (high a) (low a) 0 0 0
numbers_of Action.SendInit = twelve 5 0 0 0 0 0 0 0 0 0 0 0
numbers_of Action.SendAuthRequest = twelve 6 0 0 0 0 0 0 0 0 0 0 0
numbers_of Action.AskNas = twelve 7 0 0 0 0 0 0 0 0 0 0 0
numbers_of (Action.HandUp at n) = twelve 8 0 0 3 at n 0 0 0 0 0 0
numbers_of (Action.SendResponse n) = twelve 9 0 0 0 0 0 0 0 0 0 0 n
numbers_of Action.SendAuth = twelve 10 0 0 0 0 0 0 0 0 0 0 0
numbers_of Action.Live = twelve 11 0 0 0 0 0 0 0 0 0 0 0
numbers_of (Action.Released ended) = twelve 12 0 0 0 0 0 0 0 0 (cond ended 1 0) 0 0
numbers_of (Action.ErrorUp ended n) = twelve 13 0 0 0 0 0 0 0 0 (cond ended 1 0) n 0
numbers_of (Action.Listed n) = twelve 0 0 0 0 0 0 0 0 0 0 0 n

-- the lent octets in which a part lies: 1 the configuration text, 2 the name buffer, 3 the packet; 0 none
unfoldable pub lent_in : ℕ → List ℕ → List ℕ → List ℕ → List ℕ
lent_in n text name packet = cond (eqb n 1) text (cond (eqb n 2) name (cond (eqb n 3) packet []))

-- the octets of the part that an action's numbers name
unfoldable pub part_named : List ℕ → List ℕ → List ℕ → List ℕ → List ℕ
part_named numbers text name packet = part (lent_in (get_or numbers 3 0) text name packet) (get_or numbers 4 0) (get_or numbers 5 0)

-- the part that an action's numbers name lies within the lent octets
abbrev pub PartWithin : List ℕ → List ℕ → List ℕ → List ℕ → Type 0
PartWithin numbers text name packet = get_or numbers 4 0 + get_or numbers 5 0 ≤ length (lent_in (get_or numbers 3 0) text name packet)

-- how many octets the answer buffer has, none where there is no such buffer
unfoldable pub event_room : Event → ℕ
event_room (start g text room) = room
event_room (country replied networks text room) = room
event_room (address addresses) = 0
event_room begin = 0
event_room init = 0
event_room (eap packet) = 0
event_room (reply parameters nas room) = room
event_room (final good) = 0
event_room (error number) = 0
event_room (congestion authenticated timer) = 0
event_room give_up = 0
event_room (child_made spi session) = 0
event_room (child_deleted spi) = 0
event_room ike_delete = 0

unfoldable pub room_of : Call → ℕ
room_of (opening tenant line) = 0
room_of (closing tenant line) = 0
room_of (listing tenant room) = room
room_of (timed tenant line time e) = event_room e

-- a refused call returns only its number: the numbers 0, the part empty, the buffer zeros; open and close have no numbers
unfoldable pub refused : ℕ → Call → Answer
refused n (opening tenant line) = record { refusal = n; numbers = []; part = []; buffer = [] }
refused n (closing tenant line) = record { refusal = n; numbers = []; part = []; buffer = [] }
refused n (listing tenant room) = record { refusal = n; numbers = zeros number_count; part = []; buffer = zeros room }
refused n (timed tenant line time e) = record { refusal = n; numbers = zeros number_count; part = []; buffer = zeros (event_room e) }
