-- What an accepted event does to its line (document 01, 'Life of a line', the column 'After and action').
use Rattle.std.specs.Prelude.{ℕ, ◌+◌, Bool, true, false, cond, List, [], ◌∷◌, ◌++◌, eqb, length, Option, None, Some}
use Rattle.octets.specs.Row.{only}
use Rattle.address.specs.Address.{held_addresses}
use Rattle.address.specs.declared.Address.{Address}
use Rattle.address.specs.declared.End.TheVariants.{At, Never}
use Rattle.address.specs.declared.Hold.{Hold}
use Rattle.children.specs.Children.{is_other}
use Rattle.config.specs.Settings.{Settings, config_of}
use Rattle.octets.specs.Part.{part}
use Rattle.eap.specs.Packet.{read_packet}
use Rattle.eap.specs.declared.Packet.{Packet}
use Rattle.eap.specs.declared.Packet.TheVariants.{Start, NasRequest, Success, NasResponse, Stop}
use Rattle.gateway.specs.Gateway.{choose}
use Rattle.gateway.specs.declared.Found.{Found}
use Rattle.network.specs.declared.Plmn.{Plmn}
use Rattle.lists.specs.Lists.{addresses_in, networks_in}
use Rattle.phase.specs.Chosen.{chosen}
use Rattle.phase.specs.Stage.{is_in}
use Rattle.phase.specs.Stage as Stage
use Rattle.phase.specs.declared.Phase.{Phase}
use Rattle.phase.specs.declared.Phase.TheVariants.{Idle, Country, Name, Chosen, Init, Auth, Eap, Sure, Live}
use Rattle.phase.specs.declared.Turn.TheVariants.{First, Owed, Answered}
use Rattle.place.specs.declared.Facts.{Facts}
use Rattle.selection.specs.Query.{asked, built}
use Rattle.record.specs.Changes.{in_phase, with_children}
use Rattle.record.specs.Line.{Line}
use Rattle.response.specs.Response.{response}
use Rattle.selection.specs.Selection as Selection
use Rattle.selection.specs.declared.Choice.{Choice}
use Rattle.timer.specs.Timer.{timer_of}
use Rattle.timer.specs.declared.Timer.{Timer}
use Rattle.rules.specs.declared.Action.{Action}
use Rattle.rules.specs.Call.{Event, start, country, address, begin, init, eap, reply, final, error, congestion, give_up, child_made, child_deleted, ike_delete, facts_of}
use Rattle.rules.specs.Phases.{facts_in, owed, turn_in}
use Rattle.selection.specs.declared.Stop.TheVariants as At

-- the line afterwards, the action, the octets of the returned part and those written to the answer buffer
pub record Outcome : Type 0 where
  pub line : Line
  pub action : Action
  pub part : List ℕ
  pub written : List ℕ

-- a line and an action, with nothing returned or written
abbrev pub becomes : Line → Action → Outcome
becomes x action = record { line = x; action = action; part = []; written = [] }

-- the same line in another phase, and an action
unfoldable pub goes : Line → Phase → Action → Outcome
goes x p action = becomes (in_phase x p) action

-- stands where a refusal comes first, so that no accepted call gets there
abbrev pub unreached : Line → Outcome
unreached x = goes x Idle Action.Nothing

-- the chosen address goes on into another phase; a phase without one is refused by 10
unfoldable pub onward : (Address → Phase) → Option Address → Phase
onward f None = Idle
onward f (Some a) = f a

unfoldable pub keeps : Line → (Address → Phase) → Action → Outcome
keeps x f action = goes x (onward f (chosen x.phase)) action

-- S5: the address is chosen, or selection stops; either says how many addresses were passed over
unfoldable pub gateway_found : Line → Found → Outcome
gateway_found x (Found.Chosen a k) = goes x (Chosen a) (Action.Chose a k)
gateway_found x (Found.Nothing k) = goes x Idle (Action.Stopped At.Address k)

-- a name is asked: its octets are the part, and those that are built are written
unfoldable pub name_asked : Line → Phase → Action → List ℕ → Choice → Outcome
name_asked x p action text c = record { line = in_phase x p; action = action; part = asked text c; written = built c }

-- S1 to S4: selection stops, a name is asked, or a `node` address is treated as an answer list of one
unfoldable pub decided : Line → Facts → List ℕ → Choice → Outcome
decided x f text (Choice.Stop n) = goes x Idle (Action.Stopped n 0)
decided x f text (Choice.Country mcc) =
    let c = Choice.Country mcc in
    name_asked x (Country f) (Action.AskCountry (length (built c))) text c
decided x f text (Choice.Text at n) = name_asked x (Name f) (Action.AskText at n) text (Choice.Text at n)
decided x f text (Choice.Network p) =
    let c = Choice.Network p in
    name_asked x (Name f) (Action.AskBuilt (length (built c))) text c
decided x f text (Choice.Address a) = gateway_found x (choose f.version (held_addresses x.holds) (a ∷ []))

-- start, by the lent text; one that isn't well formed is refused by 9
unfoldable pub started : Line → Facts → List ℕ → Option Settings → Outcome
started x f text None = unreached x
started x f text (Some s) = decided x f text (Selection.start s f)

-- the country answer, with the place facts of the line and the lent text; a phase without facts is refused by 10, an ill-formed text by 9
unfoldable pub country_answered : Line → Option Facts → Option (List Plmn) → List ℕ → Option Settings → Outcome
country_answered x None ps text s = unreached x
country_answered x (Some f) ps text None = unreached x
country_answered x (Some f) ps text (Some s) = decided x f text (Selection.country s f ps)

-- the address answer, for the local IP version of the line's place facts; a phase without them is refused by 10
unfoldable pub address_answered : Line → Option Facts → List Address → Outcome
address_answered x None list = unreached x
address_answered x (Some f) list = gateway_found x (choose f.version (held_addresses x.holds) list)

-- EAP Start: identifier owed, ask for NAS; EAP NAS: identifier owed, hand NAS up; EAP Success: send AUTH; every other packet is refused by 9
unfoldable pub packet_taken : Line → List ℕ → Option Packet → Outcome
packet_taken x packet None = unreached x
packet_taken x packet (Some (Start i)) = keeps x (λ a. Eap a (First i)) Action.AskNas
packet_taken x packet (Some (NasRequest i at n)) = record {
  line = in_phase x (onward (λ a. Eap a (Owed i)) (chosen x.phase));
  action = Action.HandUp at n;
  part = part packet at n;
  written = [];
}
packet_taken x packet (Some (Success i)) = keeps x Sure Action.SendAuth
packet_taken x packet (Some (NasResponse i p m at n)) = unreached x
packet_taken x packet (Some (Stop i)) = unreached x

-- reply: none owed, a response with the identifier that was; where none is owed, the reply is refused by 10
unfoldable pub replied : Line → List ℕ → List ℕ → Option ℕ → Outcome
replied x parameters nas None = unreached x
replied x parameters nas (Some i) =
    let r = response i parameters nas in
    record {
      line = in_phase x (onward (λ a. Eap a (Answered i)) (chosen x.phase));
      action = Action.SendResponse (length r);
      part = [];
      written = r;
    }

-- final answer, AUTH good or bad
unfoldable pub finished : Line → Bool → Outcome
finished x true = keeps x Live Action.Live
finished x false = goes x Idle (Action.Released false)

-- whether an EAP session ends: in phase eap
unfoldable pub ended : Phase → Bool
ended p = is_in Stage.eap p

-- hold by timer: until time plus count times unit, without end, or none
unfoldable pub timer_hold : ℕ → Timer → Address → List Hold
timer_hold time Timer.None a = []
timer_hold time (Timer.Seconds n) a = record { address = a; end = At (time + n) } ∷ []
timer_hold time Timer.Deactivated a = record { address = a; end = Never } ∷ []

-- the same of the chosen address; a phase without one is refused by 10
unfoldable pub chosen_hold : ℕ → Timer → Option Address → List Hold
chosen_hold time t None = []
chosen_hold time t (Some a) = timer_hold time t a

-- congestion: idle, the chosen address held
unfoldable pub congested : Line → Timer → Line
congested x t = record {
  time = x.time;
  phase = Idle;
  holds = x.holds ++ chosen_hold x.time t (chosen x.phase);
  children = x.children;
}

-- one clause for each row of the table; the line is the one that the call finds, its time stored and without its ended holds
unfoldable pub outcome : Event → Line → Outcome
outcome (start g text room) x = started x (facts_of g) text (config_of text)
outcome (country n networks text room) x =
    country_answered x (facts_in x.phase) (Selection.country_reply (eqb n 1) (networks_in networks)) text (config_of text)
outcome (address addresses) x = address_answered x (facts_in x.phase) (addresses_in addresses)
outcome begin x = keeps x Init Action.SendInit
outcome init x = keeps x Auth Action.SendAuthRequest
outcome (eap packet) x = packet_taken x packet (read_packet packet)
outcome (reply parameters nas room) x = replied x parameters nas (owed (turn_in x.phase))
outcome (final good) x = finished x (eqb good 1)
outcome (error number) x = goes x Idle (Action.ErrorUp (ended x.phase) number)
outcome (congestion authenticated timer) x = becomes (congested x (timer_of timer)) (Action.Released (ended x.phase))
outcome give_up x = goes x Idle Action.Nothing
outcome (child_made spi session) x = becomes (with_children x (x.children ++ record { spi = spi; session = session } ∷ [])) Action.Nothing
outcome (child_deleted spi) x = becomes (with_children x (only (is_other spi) x.children)) Action.Nothing
outcome ike_delete x = becomes (with_children (in_phase x Idle) []) (Action.Released false)
