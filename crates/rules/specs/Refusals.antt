-- When a call is refused (document 01's table of refusal numbers, row by row, and the column 'Phase before' of 'Life of a line').
use Rattle.std.specs.Prelude.{ℕ, Bool, false, not, ◌&&◌, ◌||◌, List, [], ◌∷◌, leb, ltb, eqb, length, Option, None, Some, is_some}
use Rattle.octets.specs.Digits.{most_octet}
use Rattle.octets.specs.Refusal.{Refusal, ◌when◌}
use Rattle.address.specs.Address.{most_holds}
use Rattle.children.specs.Children.{child_fits, has_spi, most_children}
use Rattle.children.specs.Laws.{child_storable}
use Rattle.children.specs.declared.Child.{Child}
use Rattle.config.specs.Settings.{Settings, config_of}
use Rattle.eap.specs.Packet.{is_request, read_packet}
use Rattle.eap.specs.declared.Packet.{Packet}
use Rattle.eap.specs.declared.Packet.TheVariants.{Start, NasRequest, Success, NasResponse, Stop}
use Rattle.lists.specs.Lists.{addresses_fit, networks_fit}
use Rattle.parameters.specs.Parameters.{well_formed}
use Rattle.phase.specs.Stage.{is_in}
use Rattle.phase.specs.Stage as Stage
use Rattle.phase.specs.declared.Phase.{Phase}
use Rattle.place.specs.declared.Facts.{Facts}
use Rattle.network.specs.Name.{name_room}
use Rattle.record.specs.Sound.{last_tenant, last_line}
use Rattle.record.specs.Line.{Line}
use Rattle.response.specs.Response.{lent_out_of_range, reply_room}
use Rattle.selection.specs.Selection.{home_abroad}
use Rattle.rules.specs.Answer.{room_of}
use Rattle.rules.specs.Call.{Event, start, country, address, begin, init, eap, reply, final, error, congestion, give_up, child_made, child_deleted, ike_delete, Call, opening, closing, listing, timed, facts_of, last_time, listing_room, most_error, most_text, start_numbers_fit}
use Rattle.rules.specs.Phases.{facts_in, is_first, last_reply, owed, turn_in, underway}
use Rattle.rules.specs.View.{View, line_found, line_or, line_seen}

-- 2: tenant above 15 or line above 3; a listing has no line
unfoldable pub is_above_last : ℕ → ℕ → Bool
is_above_last tenant line = ltb last_tenant tenant || ltb last_line line

unfoldable pub is_no_pair : Call → Bool
is_no_pair (opening tenant line) = is_above_last tenant line
is_no_pair (closing tenant line) = is_above_last tenant line
is_no_pair (listing tenant room) = ltb last_tenant tenant
is_no_pair (timed tenant line time e) = is_above_last tenant line

-- the least room that an answer buffer needs: name 64 octets, reply 3,090, listing 1,024
unfoldable pub least_event_room : Event → ℕ
least_event_room (start g text room) = name_room
least_event_room (country replied networks text room) = name_room
least_event_room (address addresses) = 0
least_event_room begin = 0
least_event_room init = 0
least_event_room (eap packet) = 0
least_event_room (reply parameters nas room) = reply_room
least_event_room (final good) = 0
least_event_room (error number) = 0
least_event_room (congestion authenticated timer) = 0
least_event_room give_up = 0
least_event_room (child_made spi session) = 0
least_event_room (child_deleted spi) = 0
least_event_room ike_delete = 0

unfoldable pub least_room : Call → ℕ
least_room (opening tenant line) = 0
least_room (closing tenant line) = 0
least_room (listing tenant room) = listing_room
least_room (timed tenant line time e) = least_event_room e

-- 3: answer buffer too short
unfoldable pub is_short : Call → Bool
is_short c = ltb (room_of c) (least_room c)

-- 4: open: the pair is open already
unfoldable pub is_open_already : Call → View → Bool
is_open_already (opening tenant line) v = is_some (line_seen v line)
is_open_already (closing tenant line) v = false
is_open_already (listing tenant room) v = false
is_open_already (timed tenant line time e) v = false

-- 5: a call on a line, not open and not listing: the pair isn't open
unfoldable pub is_not_open : Call → View → Bool
is_not_open (opening tenant line) v = false
is_not_open (closing tenant line) v = not (is_some (line_seen v line))
is_not_open (listing tenant room) v = false
is_not_open (timed tenant line time e) v = not (is_some (line_seen v line))

-- 6: open: all 32 records are taken
unfoldable pub is_full : Call → View → Bool
is_full (opening tenant line) v = not v.free
is_full (closing tenant line) v = false
is_full (listing tenant room) v = false
is_full (timed tenant line time e) v = false

-- 7: time earlier than the line's last accepted time
unfoldable pub is_early : Call → View → Bool
is_early (opening tenant line) v = false
is_early (closing tenant line) v = false
is_early (listing tenant room) v = false
is_early (timed tenant line time e) v = ltb time (line_or (line_seen v line)).time

-- a configuration text over 1,024 octets is 8
unfoldable pub is_long : List ℕ → Bool
is_long text = ltb most_text (length text)

-- abroad with the home MCC of the lent text is 8; a malformed text has none
unfoldable pub is_home_abroad : Option Settings → Option Facts → Bool
is_home_abroad None f = false
is_home_abroad (Some s) None = false
is_home_abroad (Some s) (Some f) = home_abroad s f.place

-- the country answer's test is made where the line waits for that answer
unfoldable pub waits_home_abroad : List ℕ → Phase → Bool
waits_home_abroad text p = is_in Stage.country p && is_home_abroad (config_of text) (facts_in p)

-- a lent list of networks that isn't whole entries in their range, or that comes without a reply
unfoldable pub bad_networks : ℕ → List ℕ → Bool
bad_networks replied networks = ltb 1 replied || not (networks_fit networks) || eqb replied 0 && ltb 0 (length networks)

-- the first reply of a session needs AN-parameters
unfoldable pub lacks_parameters : List ℕ → Phase → Bool
lacks_parameters parameters p = is_first (turn_in p) && ltb (length parameters) 1

-- an SPI from 256 in four octets, a session 1 to 15, which one octet holds
unfoldable pub is_child : Child → Bool
is_child c = child_fits c && child_storable c

-- 8: a number or count out of its range
unfoldable pub is_out_of_range : Event → Line → Bool
is_out_of_range (start g text room) x = not (start_numbers_fit g) || is_long text || is_home_abroad (config_of text) (Some (facts_of g))
is_out_of_range (country replied networks text room) x = bad_networks replied networks || is_long text || waits_home_abroad text x.phase
is_out_of_range (address addresses) x = not (addresses_fit addresses)
is_out_of_range begin x = false
is_out_of_range init x = false
is_out_of_range (eap packet) x = false
is_out_of_range (reply parameters nas room) x = lent_out_of_range parameters nas || lacks_parameters parameters x.phase
is_out_of_range (final good) x = ltb 1 good
is_out_of_range (error number) x = ltb number 1 || ltb most_error number
is_out_of_range (congestion authenticated timer) x = ltb 1 authenticated || ltb most_octet timer
is_out_of_range give_up x = false
is_out_of_range (child_made spi session) x = not (is_child (record { spi = spi; session = session }))
is_out_of_range (child_deleted spi) x = false
is_out_of_range ike_delete x = false

-- octets that are a packet, and one that the EAP step takes apart
unfoldable pub is_some_request : Option Packet → Bool
is_some_request None = false
is_some_request (Some p) = is_request p

-- 9: a configuration text or packet that isn't well formed; the EAP step takes Start, NAS requests and Success apart and turns every other packet away
unfoldable pub is_malformed : Event → Bool
is_malformed (start g text room) = not (is_some (config_of text))
is_malformed (country replied networks text room) = not (is_some (config_of text))
is_malformed (address addresses) = false
is_malformed begin = false
is_malformed init = false
is_malformed (eap packet) = not (is_some_request (read_packet packet))
is_malformed (reply parameters nas room) = not (well_formed parameters)
is_malformed (final good) = false
is_malformed (error number) = false
is_malformed (congestion authenticated timer) = false
is_malformed give_up = false
is_malformed (child_made spi session) = false
is_malformed (child_deleted spi) = false
is_malformed ike_delete = false

-- an identifier is the one that there is
unfoldable pub is_identifier : ℕ → Option ℕ → Bool
is_identifier n None = false
is_identifier n (Some m) = eqb n m

-- EAP Start in auth, EAP NAS in eap with none owed, EAP Success there with the identifier of the last reply
unfoldable pub is_due : Option Packet → Phase → Bool
is_due None p = false
is_due (Some (Start i)) p = is_in Stage.auth p
is_due (Some (NasRequest i at n)) p = is_some (last_reply (turn_in p))
is_due (Some (Success i)) p = is_identifier i (last_reply (turn_in p))
is_due (Some (NasResponse i q m at n)) p = false
is_due (Some (Stop i)) p = false

-- 10 where the event isn't allowed in this phase: the column 'Phase before'
unfoldable pub is_allowed : Event → Line → Bool
is_allowed (start g text room) x = is_in Stage.idle x.phase
is_allowed (country replied networks text room) x = is_in Stage.country x.phase
is_allowed (address addresses) x = is_in Stage.name x.phase
is_allowed begin x = is_in Stage.chosen x.phase
is_allowed init x = is_in Stage.init x.phase
is_allowed (eap packet) x = is_due (read_packet packet) x.phase
is_allowed (reply parameters nas room) x = is_some (owed (turn_in x.phase))
is_allowed (final good) x = is_in Stage.sure x.phase
is_allowed (error number) x = underway x.phase
is_allowed (congestion authenticated timer) x = eqb authenticated 1 && underway x.phase
is_allowed give_up x = not (is_in Stage.idle x.phase) && not (is_in Stage.live x.phase)
is_allowed (child_made spi session) x = is_in Stage.live x.phase
is_allowed (child_deleted spi) x = is_in Stage.live x.phase && has_spi spi x.children
is_allowed ike_delete x = is_in Stage.live x.phase

-- 11: child SPI already on this line
unfoldable pub is_spi_taken : Event → Line → Bool
is_spi_taken (start g text room) x = false
is_spi_taken (country replied networks text room) x = false
is_spi_taken (address addresses) x = false
is_spi_taken begin x = false
is_spi_taken init x = false
is_spi_taken (eap packet) x = false
is_spi_taken (reply parameters nas room) x = false
is_spi_taken (final good) x = false
is_spi_taken (error number) x = false
is_spi_taken (congestion authenticated timer) x = false
is_spi_taken give_up x = false
is_spi_taken (child_made spi session) x = has_spi spi x.children
is_spi_taken (child_deleted spi) x = false
is_spi_taken ike_delete x = false

-- 12: child: eight stand
unfoldable pub has_no_room : Event → Line → Bool
has_no_room (start g text room) x = false
has_no_room (country replied networks text room) x = false
has_no_room (address addresses) x = false
has_no_room begin x = false
has_no_room init x = false
has_no_room (eap packet) x = false
has_no_room (reply parameters nas room) x = false
has_no_room (final good) x = false
has_no_room (error number) x = false
has_no_room (congestion authenticated timer) x = false
has_no_room give_up x = false
has_no_room (child_made spi session) x = leb most_children (length x.children)
has_no_room (child_deleted spi) x = false
has_no_room ike_delete x = false

-- 13: start: eight holds are in force
unfoldable pub is_held_full : Event → Line → Bool
is_held_full (start g text room) x = leb most_holds (length x.holds)
is_held_full (country replied networks text room) x = false
is_held_full (address addresses) x = false
is_held_full begin x = false
is_held_full init x = false
is_held_full (eap packet) x = false
is_held_full (reply parameters nas room) x = false
is_held_full (final good) x = false
is_held_full (error number) x = false
is_held_full (congestion authenticated timer) x = false
is_held_full give_up x = false
is_held_full (child_made spi session) x = false
is_held_full (child_deleted spi) x = false
is_held_full ike_delete x = false

-- 8 to 13, of an event on the line as the call finds it; out says that the time is out of its range
unfoldable pub refusals_of : Event → Bool → Line → List Refusal
refusals_of e out x =
    (8 when (out || is_out_of_range e x)) ∷ (9 when is_malformed e) ∷ (10 when not (is_allowed e x)) ∷ (11 when is_spi_taken e x) ∷ (12 when has_no_room e x)
    ∷ (13 when is_held_full e x) ∷ []

-- only a timed call has an event
unfoldable pub event_refusals : Call → View → List Refusal
event_refusals (opening tenant line) v = []
event_refusals (closing tenant line) v = []
event_refusals (listing tenant room) v = []
event_refusals (timed tenant line time e) v = refusals_of e (ltb last_time time) (line_found line time v)

-- the table of refusal numbers; the lowest number that applies is given
unfoldable pub refusals : Call → View → List Refusal
refusals c v =
    (1 when not v.sound) ∷ (2 when is_no_pair c) ∷ (3 when is_short c) ∷ (4 when is_open_already c v) ∷ (5 when is_not_open c v) ∷ (6 when is_full c v)
    ∷ (7 when is_early c v) ∷ event_refusals c v
