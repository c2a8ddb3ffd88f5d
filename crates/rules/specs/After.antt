-- What a call leaves: the row of 'Life of a line' by which it leads, how a line comes to be sure and live, its time, holds and children, and the one record
-- that the call may change.
use Rattle.std.specs.Prelude.{ℕ, ◌+◌, ◌*◌, ◌/◌, ◌%◌, Bool, true, false, cond, ◌&&◌, List, [], ◌∷◌, ◌++◌, ◌≡◌, eqb, get_or, length, Option, None, Some}
use Rattle.octets.specs.Row.{only}
use Rattle.address.specs.declared.Address.{Address}
use Rattle.address.specs.declared.End.TheVariants.{At, Never}
use Rattle.address.specs.declared.Hold.{Hold}
use Rattle.children.specs.Children.{is_other}
use Rattle.children.specs.declared.Child.{Child}
use Rattle.eap.specs.Packet.{read_packet}
use Rattle.eap.specs.declared.Packet.TheVariants.{Start, NasRequest, Success}
use Rattle.holds.specs.Holds.{ends_after}
use Rattle.phase.specs.Chosen.{chosen}
use Rattle.phase.specs.Stage.{is_in}
use Rattle.phase.specs.Stage as Stage
use Rattle.phase.specs.declared.Phase.{Phase}
use Rattle.phase.specs.declared.Phase.TheVariants.{Idle, Country, Name, Chosen, Init, Auth, Eap, Sure, Live}
use Rattle.phase.specs.declared.Turn.{Turn}
use Rattle.phase.specs.declared.Turn.TheVariants.{First, Owed, Answered}
use Rattle.place.specs.declared.Facts.{Facts}
use Rattle.record.specs.Line.{Line}
use Rattle.table.specs.Table.{free_pair, record_of}
use Rattle.response.specs.Response.{response}
use Rattle.timer.specs.Timer.{unit_seconds}
use Rattle.rules.specs.Answer.{numbers_of}
use Rattle.rules.specs.declared.Action.{Action}
use Rattle.rules.specs.Call.{Event, start, country, address, begin, init, eap, reply, final, error, congestion, give_up, child_made, child_deleted, ike_delete, Call, opening, closing, listing, timed, facts_of, pair_of}
use Rattle.rules.specs.declared.StartNumbers.{StartNumbers}
use Rattle.rules.specs.Phases.{last_reply, turn_in}
use Rattle.selection.specs.declared.Stop.{Stop}
use Rattle.selection.specs.declared.Stop.TheVariants as At

-- opening takes a free record, closing and events change that of their pair, a listing none
unfoldable pub own_record : Call → List ℕ → Option ℕ
own_record (opening tenant line) l = Some (record_of l free_pair)
own_record (closing tenant line) l = Some (record_of l (pair_of tenant line))
own_record (listing tenant room) l = None
own_record (timed tenant line time e) l = Some (record_of l (pair_of tenant line))

-- why a line is sure after a call, by what the pair had before: it was, or the call is an EAP Success on it with the identifier of the last reply
pub data SureBy (c : Call) (tenant line : ℕ) : Option Line → Type 0 where
  was_sure : (x : Line) → is_in Stage.sure x.phase ≡ true → SureBy c tenant line (Some x)
  success : (x : Line) (time identifier : ℕ) (packet : List ℕ) → c ≡ timed tenant line time (eap packet) → read_packet packet ≡ Some (Success identifier)
      → last_reply (turn_in x.phase) ≡ Some identifier → SureBy c tenant line (Some x)

-- why a line is live after a call: it was, or the call is the final answer on it with AUTH good, and it was sure
pub data LiveBy (c : Call) (tenant line : ℕ) : Option Line → Type 0 where
  was_live : (x : Line) → is_in Stage.live x.phase ≡ true → LiveBy c tenant line (Some x)
  auth_good : (x : Line) (time : ℕ) → c ≡ timed tenant line time (final 1) → is_in Stage.sure x.phase ≡ true → LiveBy c tenant line (Some x)

-- S5: an address is chosen, the one that the answer says, or selection stops
pub data Chooses : Phase → Action → Type 0 where
  chooses : {a : Address} {passed : ℕ} → Chooses (Chosen a) (Action.Chose a passed)
  finds_none : {passed : ℕ} → Chooses Idle (Action.Stopped At.Address passed)

-- S1 to S4 with place facts: name, chosen or idle, and the facts stay while the name is asked
pub data Decides (f : Facts) : Phase → Action → Type 0 where
  asks_text : {at n : ℕ} → Decides f (Name f) (Action.AskText at n)
  asks_built : {n : ℕ} → Decides f (Name f) (Action.AskBuilt n)
  goes_through : {q : Phase} {action : Action} → Chooses q action → Decides f q action
  stops : {at : Stop} → Decides f Idle (Action.Stopped at 0)

-- the phases auth, eap and sure, with whether EAP ends
pub data Underway : Phase → Bool → Type 0 where
  in_auth : {a : Address} → Underway (Auth a) false
  in_eap_lem : {a : Address} {t : Turn} → Underway (Eap a t) true
  in_sure : {a : Address} → Underway (Sure a) false

-- the table 'Life of a line' row by row: event, phase before, phase after and action; the chosen address goes along from chosen to live
pub data Transition : Event → Phase → Phase → Action → Type 0 where
  start_asks : {g : StartNumbers} {text : List ℕ} {room n : ℕ} → Transition (start g text room) Idle (Country (facts_of g)) (Action.AskCountry n)
  start_decides : {g : StartNumbers} {text : List ℕ} {room : ℕ} {q : Phase} {action : Action} → Decides (facts_of g) q action
      → Transition (start g text room) Idle q action
  country_decides : {replied : ℕ} {networks text : List ℕ} {room : ℕ} {f : Facts} {q : Phase} {action : Action} → Decides f q action
      → Transition (country replied networks text room) (Country f) q action
  address_answered_lem : {list : List ℕ} {f : Facts} {q : Phase} {action : Action} → Chooses q action → Transition (address list) (Name f) q action
  begun : {a : Address} → Transition begin (Chosen a) (Init a) Action.SendInit
  init_answered : {a : Address} → Transition init (Init a) (Auth a) Action.SendAuthRequest
  eap_started : {packet : List ℕ} {i : ℕ} {a : Address} → read_packet packet ≡ Some (Start i) → Transition (eap packet) (Auth a) (Eap a (First i)) Action.AskNas
  eap_asked : {packet : List ℕ} {i at n j : ℕ} {a : Address} → read_packet packet ≡ Some (NasRequest i at n)
      → Transition (eap packet) (Eap a (Answered j)) (Eap a (Owed i)) (Action.HandUp at n)
  first_replied : {parameters nas : List ℕ} {room i : ℕ} {a : Address}
      → Transition (reply parameters nas room) (Eap a (First i)) (Eap a (Answered i)) (Action.SendResponse (length (response i parameters nas)))
  later_replied : {parameters nas : List ℕ} {room i : ℕ} {a : Address}
      → Transition (reply parameters nas room) (Eap a (Owed i)) (Eap a (Answered i)) (Action.SendResponse (length (response i parameters nas)))
  eap_succeeded : {packet : List ℕ} {i : ℕ} {a : Address} → read_packet packet ≡ Some (Success i) → Transition (eap packet) (Eap a (Answered i)) (Sure a) Action.SendAuth
  final_good : {a : Address} → Transition (final 1) (Sure a) (Live a) Action.Live
  final_bad : {a : Address} → Transition (final 0) (Sure a) Idle (Action.Released false)
  error_notified : {number : ℕ} {ended : Bool} {p : Phase} → Underway p ended → Transition (error number) p Idle (Action.ErrorUp ended number)
  congestion_told : {timer : ℕ} {ended : Bool} {p : Phase} → Underway p ended → Transition (congestion 1 timer) p Idle (Action.Released ended)
  given_up : {p : Phase} → is_in Stage.idle p ≡ false → is_in Stage.live p ≡ false → Transition give_up p Idle Action.Nothing
  child_added : {spi session : ℕ} {a : Address} → Transition (child_made spi session) (Live a) (Live a) Action.Nothing
  child_taken : {spi : ℕ} {a : Address} → Transition (child_deleted spi) (Live a) (Live a) Action.Nothing
  ike_deleted : {a : Address} → Transition ike_delete (Live a) Idle (Action.Released false)

-- error and congestion end EAP on a line in eap, and no other event does
unfoldable pub ends_eap : Event → Bool
ends_eap (start g text room) = false
ends_eap (country replied networks text room) = false
ends_eap (address list) = false
ends_eap begin = false
ends_eap init = false
ends_eap (eap packet) = false
ends_eap (reply parameters nas room) = false
ends_eap (final good) = false
ends_eap (error number) = true
ends_eap (congestion authenticated timer) = true
ends_eap give_up = false
ends_eap (child_made spi session) = false
ends_eap (child_deleted spi) = false
ends_eap ike_delete = false

-- a pair's phase after an accepted timed call on its line, and the numbers of the answer: those of a row of the table, where number 9 says that EAP ended
pub record PhaseAfter (e : Event) (p : Phase) (numbers : List ℕ) (o : Option Line) : Type 0 where
  pub line : Line
  pub stands : o ≡ Some line
  pub action : Action
  pub says : numbers ≡ numbers_of action
  pub row : Transition e p line.phase action
  pub eap_ended : get_or numbers 9 0 ≡ cond (ends_eap e && is_in Stage.eap p) 1 0

-- hold by timer of the chosen address: without end at unit 7, else none at count 0, else until time plus count times unit
unfoldable pub congestion_hold : ℕ → ℕ → Option Address → List Hold
congestion_hold time octet None = []
congestion_hold time octet (Some a) =
    let unit = octet / 32 in
    let count = octet % 32 in
    cond (eqb unit 7) (record { address = a; end = Never } ∷ [])
    (cond (eqb count 0) [] (record { address = a; end = At (time + count * unit_seconds unit) } ∷ []))

-- the hold that an event at a time adds to a line in a phase: that of congestion, and no other
unfoldable pub hold_added : Event → ℕ → Phase → List Hold
hold_added (start g text room) time p = []
hold_added (country replied networks text room) time p = []
hold_added (address list) time p = []
hold_added begin time p = []
hold_added init time p = []
hold_added (eap packet) time p = []
hold_added (reply parameters nas room) time p = []
hold_added (final good) time p = []
hold_added (error number) time p = []
hold_added (congestion authenticated timer) time p = congestion_hold time timer (chosen p)
hold_added give_up time p = []
hold_added (child_made spi session) time p = []
hold_added (child_deleted spi) time p = []
hold_added ike_delete time p = []

-- the children after an event: one more for each child made, one less for each deleted, none after an IKE delete
unfoldable pub children_after : Event → List Child → List Child
children_after (start g text room) cs = cs
children_after (country replied networks text room) cs = cs
children_after (address list) cs = cs
children_after begin cs = cs
children_after init cs = cs
children_after (eap packet) cs = cs
children_after (reply parameters nas room) cs = cs
children_after (final good) cs = cs
children_after (error number) cs = cs
children_after (congestion authenticated timer) cs = cs
children_after give_up cs = cs
children_after (child_made spi session) cs = cs ++ record { spi = spi; session = session } ∷ []
children_after (child_deleted spi) cs = only (is_other spi) cs
children_after ike_delete cs = []

-- what a pair has after an accepted timed call on its line: the call's time, the holds that haven't ended then and the one added, and the children
pub record After (e : Event) (now : ℕ) (x : Line) (o : Option Line) : Type 0 where
  pub line : Line
  pub stands : o ≡ Some line
  pub time : line.time ≡ now
  pub holds : line.holds ≡ only (ends_after now) x.holds ++ hold_added e now x.phase
  pub children : line.children ≡ children_after e x.children
