-- What is claimed of `run`, for every call, table and history; the function `claims` promises it.
use Rattle.std.specs.Prelude.{ℕ, suc, ◌≤◌, ◌<◌, Bool, true, false, cond, not, ◌||◌, List, [], ◌∷◌, ◌++◌, ◌≡◌, eqb, ltb, get_or, length, set, Option, None, Some}
use Rattle.octets.specs.Laws.{below}
use Rattle.octets.specs.Part.{padded, zeros}
use Rattle.octets.specs.Refusal.{Applies}
use Rattle.octets.specs.Row.{only, place, row, FirstAt}
use Rattle.octets.specs.Search.{all_of}
use Rattle.address.specs.Address.{held_addresses, permitted}
use Rattle.address.specs.declared.Address.{Address}
use Rattle.children.specs.Children.{has_spi, is_other}
use Rattle.config.specs.Settings.{Settings, config_of}
use Rattle.lists.specs.Lists.{addresses_in, networks_in}
use Rattle.phase.specs.Stage.{is_in}
use Rattle.phase.specs.Stage as Stage
use Rattle.phase.specs.declared.Phase.{Phase}
use Rattle.phase.specs.declared.Phase.TheVariants.{Chosen}
use Rattle.place.specs.declared.Facts.{Facts}
use Rattle.record.specs.Changes.{current, with_children}
use Rattle.record.specs.Octets.{record_length}
use Rattle.record.specs.Line.{Line}
use Rattle.record.specs.Sound.{last_line}
use Rattle.response.specs.Laws as Response
use Rattle.response.specs.Response.{response}
use Rattle.selection.specs.Selection as Selection
use Rattle.selection.specs.Stops.{Ends, Exactly, addresses, country_reached, start_reached}
use Rattle.table.specs.Slots.{is_open, line_at, slots_of, open_pairs}
use Rattle.table.specs.Table.{is_table, record_of, slot, table_length, record_count}
use Rattle.rules.specs.After.{After, LiveBy, PhaseAfter, SureBy, Transition, own_record}
use Rattle.rules.specs.Answer.{Answer, number_count, room_of}
use Rattle.rules.specs.Call.{Event, start, country, address, reply, child_made, child_deleted, Call, opening, closing, listing, timed, facts_of, pair_of, last_time, listing_room}
use Rattle.rules.specs.declared.Action.{Action}
use Rattle.rules.specs.declared.StartNumbers.{StartNumbers}
use Rattle.rules.specs.Histories.{answers_to, is_octets, remaining, table_after}
use Rattle.rules.specs.Life.{Outcome, decided, goes, outcome}
use Rattle.rules.specs.Listing.{list_from}
use Rattle.rules.specs.Phases.{facts_in, owed, turn_in}
use Rattle.rules.specs.Run.{Result, answer_of, run}
use Rattle.rules.specs.Refusals.{has_no_room, is_allowed, is_early, is_full, is_held_full, is_malformed, is_no_pair, is_not_open, is_open_already, is_out_of_range, is_short, is_spi_taken, refusals}
use Rattle.rules.specs.View.{View, fresh, line_found, own_line, view_in}
use Rattle.rules.specs.OnSlots.{run_on}

-- the number that a call gives
unfoldable pub number_given : Call → List ℕ → ℕ
number_given c l = (run c l).answer.refusal

-- a time above the last one; open, close and listing carry no time
unfoldable pub is_past_last : Call → Bool
is_past_last (opening tenant line) = false
is_past_last (closing tenant line) = false
is_past_last (listing tenant room) = false
is_past_last (timed tenant line time e) = ltb last_time time

-- a condition of a timed call's event and of the line as the call finds it; open, close and listing have no event
unfoldable pub on_line : (Event → Line → Bool) → Call → View → Bool
on_line p (opening tenant line) v = false
on_line p (closing tenant line) v = false
on_line p (listing tenant room) v = false
on_line p (timed tenant line time e) v = p e (line_found line time v)

-- no row of document 01's table of refusal numbers applies
pub record NoRow (c : Call) (v : View) : Type 0 where
  pub row_1 : not v.sound ≡ false
  pub row_2 : is_no_pair c ≡ false
  pub row_3 : is_short c ≡ false
  pub row_4 : is_open_already c v ≡ false
  pub row_5 : is_not_open c v ≡ false
  pub row_6 : is_full c v ≡ false
  pub row_7 : is_early c v ≡ false
  pub row_8 : is_past_last c || on_line is_out_of_range c v ≡ false
  pub row_9 : on_line (λ e x. is_malformed e) c v ≡ false
  pub row_10 : on_line (λ e x. not (is_allowed e x)) c v ≡ false
  pub row_11 : on_line is_spi_taken c v ≡ false
  pub row_12 : on_line has_no_room c v ≡ false
  pub row_13 : on_line is_held_full c v ≡ false

-- a number is given exactly where its row applies and no lower one does
pub record GivenExactly (n : ℕ) (c : Call) (l : List ℕ) (applies : Bool) : Type 0 where
  -- where the number is given its row applies, and no lower number does
  pub only_then : number_given c l ≡ n → applies ≡ true
  pub none_lower : number_given c l ≡ n → (m : ℕ) → m < n → Applies m (refusals c (view_in c l)) → ⊥
  -- where its row applies that number is given, or a lower one
  pub always_then : applies ≡ true → (1 ≤ number_given c l) × (number_given c l ≤ n)

-- the table row by row
pub record GivenRows (c : Call) (l : List ℕ) (v : View) : Type 0 where
  pub given_1 : GivenExactly 1 c l (not (is_table l))
  pub given_2 : GivenExactly 2 c l (is_no_pair c)
  pub given_3 : GivenExactly 3 c l (is_short c)
  pub given_4 : GivenExactly 4 c l (is_open_already c v)
  pub given_5 : GivenExactly 5 c l (is_not_open c v)
  pub given_6 : GivenExactly 6 c l (is_full c v)
  pub given_7 : GivenExactly 7 c l (is_early c v)
  pub given_8 : GivenExactly 8 c l (is_past_last c || on_line is_out_of_range c v)
  pub given_9 : GivenExactly 9 c l (on_line (λ e x. is_malformed e) c v)
  pub given_10 : GivenExactly 10 c l (on_line (λ e x. not (is_allowed e x)) c v)
  pub given_11 : GivenExactly 11 c l (on_line is_spi_taken c v)
  pub given_12 : GivenExactly 12 c l (on_line has_no_room c v)
  pub given_13 : GivenExactly 13 c l (on_line is_held_full c v)

-- a sound table of octets
pub record Good (l : List ℕ) : Type 0 where
  pub sound : is_table l ≡ true
  pub octets : all_of (below 256) l ≡ true

-- the line of a pair (tenant, line)
abbrev pub line_in : List ℕ → ℕ → ℕ → Option Line
line_in l tenant line = line_at (pair_of tenant line) (slots_of l)

-- two sound tables in which a tenant has equal lines and the same pairs are open, in whichever records they sit
pub record Alike (a : ℕ) (l m : List ℕ) : Type 0 where
  pub left : Good l
  pub right : Good m
  pub lines : (line : ℕ) → line ≤ last_line → line_in l a line ≡ line_in m a line
  pub opened : (pair : ℕ) → 1 ≤ pair → is_open pair (slots_of l) ≡ is_open pair (slots_of m)

-- how many numbers the answer of a call has: twelve, none for open and close
unfoldable pub count_of : Call → ℕ
count_of (opening tenant line) = 0
count_of (closing tenant line) = 0
count_of (listing tenant room) = number_count
count_of (timed tenant line time e) = number_count

-- what a refused call leaves
pub record Left (c : Call) (l : List ℕ) (r : Result) : Type 0 where
  pub table : r.table ≡ l
  pub numbers : r.answer.numbers ≡ zeros (count_of c)
  pub part : r.answer.part ≡ []
  pub buffer : r.answer.buffer ≡ zeros (room_of c)

-- where an answer says that selection stopped
unfoldable pub stop_said : Answer → Option ℕ
stop_said a = cond (eqb (get_or a.numbers 0 0) 1) (Some (get_or a.numbers 1 0)) None

-- how many addresses an answer says were passed over
unfoldable pub passed_said : Answer → ℕ
passed_said a = get_or a.numbers 2 0

-- an accepted timed call on a line of a sound table
pub record Timed (tenant line time : ℕ) (e : Event) (l : List ℕ) (x : Line) : Type 0 where
  pub octets : is_octets (timed tenant line time e) ≡ true
  pub good : Good l
  pub stands : line_in l tenant line ≡ Some x
  pub accepted : number_given (timed tenant line time e) l ≡ 0

-- a timed call answers what an outcome says, and leaves its line
abbrev pub ComesTo : ℕ → ℕ → ℕ → Event → List ℕ → Outcome → Type 0
ComesTo tenant line time e l o = ((run (timed tenant line time e) l).answer ≡ answer_of e o) × (line_in (run (timed tenant line time e) l).table tenant line ≡ Some o.line)

pub record Claims : Type 0 where
  -- a call is accepted exactly where no row of the table of refusal numbers applies
  pub accepted_exactly : (c : Call) (l : List ℕ)
      → (number_given c l ≡ 0 → NoRow c (view_in c l)) × (NoRow c (view_in c l) → number_given c l ≡ 0)
  -- each number is given exactly where its row applies and no lower one does; never above 13
  pub refused_exactly : (c : Call) (l : List ℕ) → GivenRows c l (view_in c l)
  pub refusal_range : (c : Call) (l : List ℕ) → number_given c l ≤ 13
  -- a record is free exactly where fewer pairs are open than there are records
  pub room_exactly : (c : Call) (l : List ℕ) → is_table l ≡ true → (view_in c l).free ≡ ltb (open_pairs (slots_of l)) record_count
  -- every call on a table that isn't sound is refused by 1
  pub unsound_refused : (c : Call) (l : List ℕ) → is_table l ≡ false → number_given c l ≡ 1
  -- a refused call leaves the table as it was, every number 0, the part empty and the answer buffer zeros
  pub refusal_leaves : (c : Call) (l : List ℕ) → (number_given c l ≡ 0 → ⊥) → Left c l (run c l)
  -- the empty table is sound, and a sound table stays sound, whatever the call
  pub empty_good : Good (zeros table_length)
  pub run_sound : (c : Call) (l : List ℕ) → is_octets c ≡ true → Good l → Good (run c l).table
  -- on a sound table `run` does to the octets what the rules do to the slots
  pub run_slots : (c : Call) (l : List ℕ) → is_octets c ≡ true → Good l
      → ((run c l).answer ≡ (run_on c (slots_of l)).answer) × (slots_of (run c l).table ≡ (run_on c (slots_of l)).slots)
  -- an accepted timed call answers and leaves what its event's row says of the line as the call finds it
  pub timed_run : (tenant line time : ℕ) (e : Event) (l : List ℕ) (x : Line) → Timed tenant line time e l x → ComesTo tenant line time e l (outcome e (current time x))
  -- start and the country answer come to what S1 to S4 choose by the lent text and the place facts
  pub start_chooses : (tenant line time : ℕ) (g : StartNumbers) (text : List ℕ) (room : ℕ) (l : List ℕ) (x : Line) (s : Settings)
      → Timed tenant line time (start g text room) l x → config_of text ≡ Some s
      → ComesTo tenant line time (start g text room) l (decided (current time x) (facts_of g) text (Selection.start s (facts_of g)))
  pub country_chooses : (tenant line time replied : ℕ) (networks text : List ℕ) (room : ℕ) (l : List ℕ) (x : Line) (s : Settings) (f : Facts)
      → Timed tenant line time (country replied networks text room) l x → config_of text ≡ Some s → facts_in x.phase ≡ Some f
      → ComesTo tenant line time (country replied networks text room) l (decided (current time x) f text (Selection.country s f (Selection.country_reply (eqb replied 1) (networks_in networks))))
  -- start, the country answer and the address answer stop exactly where the step reached has nothing that is permitted, with its number
  pub stops_start : (tenant line time : ℕ) (g : StartNumbers) (text : List ℕ) (room : ℕ) (l : List ℕ) (x : Line) (s : Settings)
      → Timed tenant line time (start g text room) l x → config_of text ≡ Some s
      → Exactly (Ends s g.version (held_addresses (current time x).holds) (start_reached s (facts_of g).place)) (stop_said (run (timed tenant line time (start g text room)) l).answer)
  pub stops_country : (tenant line time replied : ℕ) (networks text : List ℕ) (room : ℕ) (l : List ℕ) (x : Line) (s : Settings) (f : Facts)
      → Timed tenant line time (country replied networks text room) l x → config_of text ≡ Some s → facts_in x.phase ≡ Some f
      → Exactly (Ends s f.version (held_addresses (current time x).holds) (country_reached s f.place (Selection.country_reply (eqb replied 1) (networks_in networks))))
      (stop_said (run (timed tenant line time (country replied networks text room)) l).answer)
  pub stops_address : (tenant line time : ℕ) (list : List ℕ) (l : List ℕ) (x : Line) (s : Settings) (f : Facts)
      → Timed tenant line time (address list) l x → facts_in x.phase ≡ Some f
      → Exactly (Ends s f.version (held_addresses (current time x).holds) (addresses (addresses_in list))) (stop_said (run (timed tenant line time (address list)) l).answer)
  -- the address answer says how many addresses stand before the first that is permitted, or all of them where none is
  pub passed_exactly : (tenant line time : ℕ) (list : List ℕ) (l : List ℕ) (x : Line) (f : Facts)
      → Timed tenant line time (address list) l x → facts_in x.phase ≡ Some f
      → passed_said (run (timed tenant line time (address list)) l).answer ≡ place (permitted f.version (held_addresses (current time x).holds)) (addresses_in list)
  -- and chooses that first one: the answer says it, and the line has it
  pub chosen_first : (tenant line time : ℕ) (list : List ℕ) (l : List ℕ) (x : Line) (f : Facts) (k : ℕ) (a : Address)
      → Timed tenant line time (address list) l x → facts_in x.phase ≡ Some f
      → FirstAt (permitted f.version (held_addresses (current time x).holds)) (addresses_in list) k a
      → ComesTo tenant line time (address list) l (goes (current time x) (Chosen a) (Action.Chose a k))
  -- a reply writes the response with the identifier that is owed, the lent AN-parameters and NAS
  pub reply_written : (tenant line time : ℕ) (parameters nas : List ℕ) (room i : ℕ) (l : List ℕ) (x : Line) → Timed tenant line time (reply parameters nas room) l x
      → owed (turn_in x.phase) ≡ Some i → (run (timed tenant line time (reply parameters nas room)) l).answer.buffer ≡ padded room (response i parameters nas)
  -- children stand only on a live line
  pub tunnels_live : (tenant line : ℕ) (l : List ℕ) (x : Line) → Good l → line_in l tenant line ≡ Some x → is_in Stage.live x.phase ≡ false → x.children ≡ []
  -- an accepted child made adds that one at the end of a live line and changes nothing else of the line as the call finds it
  pub tunnels_made : (tenant line time spi session : ℕ) (l : List ℕ) (x : Line) → Timed tenant line time (child_made spi session) l x
      → (is_in Stage.live x.phase ≡ true)
      × (line_in (run (timed tenant line time (child_made spi session)) l).table tenant line
      ≡ Some (with_children (current time x) (x.children ++ record { spi = spi; session = session } ∷ [])))
  -- an accepted delete takes that one, and no other
  pub tunnels_deleted : (tenant line time spi : ℕ) (l : List ℕ) (x : Line) → Timed tenant line time (child_deleted spi) l x
      → (line_in (run (timed tenant line time (child_deleted spi)) l).table tenant line ≡ Some (with_children (current time x) (only (is_other spi) x.children)))
      × (suc (length (only (is_other spi) x.children)) ≡ length x.children)
  -- whatever the call, a line is live only if it was or is now authenticated, and sure only if it was or EAP now succeeded
  pub live_authenticated : (c : Call) (l : List ℕ) (tenant line : ℕ) (y : Line) → is_octets c ≡ true → Good l → line ≤ last_line
      → line_in (run c l).table tenant line ≡ Some y → is_in Stage.live y.phase ≡ true → LiveBy c tenant line (line_in l tenant line)
  pub sure_succeeded : (c : Call) (l : List ℕ) (tenant line : ℕ) (y : Line) → is_octets c ≡ true → Good l → line ≤ last_line
      → line_in (run c l).table tenant line ≡ Some y → is_in Stage.sure y.phase ≡ true → SureBy c tenant line (line_in l tenant line)
  -- an accepted timed call stores its time and drops the ended holds; only congestion adds a hold, only a child made adds a child
  pub timed_after : (tenant line time : ℕ) (e : Event) (l : List ℕ) (x : Line) → Timed tenant line time e l x
      → After e time x (line_in (run (timed tenant line time e) l).table tenant line)
  -- an accepted timed call follows a row of 'Life of a line': from the line's phase to the one after, with the action that the answer says
  pub phase_after : (tenant line time : ℕ) (e : Event) (l : List ℕ) (x : Line) → Timed tenant line time e l x
      → PhaseAfter e x.phase (run (timed tenant line time e) l).answer.numbers (line_in (run (timed tenant line time e) l).table tenant line)
  -- an event is allowed wherever a row of 'Life of a line' begins in the line's phase; a delete where its SPI is present
  pub row_allowed : (e : Event) (x : Line) (q : Phase) (action : Action) → Transition e x.phase q action
      → ((spi : ℕ) → e ≡ child_deleted spi → has_spi spi x.children ≡ true) → is_allowed e x ≡ true
  -- an accepted timed call's time is not earlier than the line's, and not past the last one
  pub times_rise : (tenant line time : ℕ) (e : Event) (l : List ℕ) (x : Line) → Timed tenant line time e l x → (x.time ≤ time) × (time ≤ last_time)
  -- every record but the call's own keeps its octets, a listing leaves all records, and the table keeps its length
  pub others_untouched : (c : Call) (l : List ℕ) → is_octets c ≡ true → Good l
      → (j : ℕ) → (own_record c l ≡ Some j → ⊥) → slot (run c l).table j ≡ slot l j
  pub listing_leaves : (tenant room : ℕ) (l : List ℕ) → (run (listing tenant room) l).table ≡ l
  pub length_kept : (c : Call) (l : List ℕ) → length (run c l).table ≡ length l
  -- writing and reading NAS responses undo each other
  pub eap_round : Response.Laws
  -- after an accepted close the pair's record is zeros
  pub closed_zero : (tenant line : ℕ) (l : List ℕ) → Good l → number_given (closing tenant line) l ≡ 0
      → slot (run (closing tenant line) l).table (record_of l (pair_of tenant line)) ≡ zeros record_length
  -- a line just opened is idle with no child, no hold and time 0, whatever the table was
  pub taken_over_clean : (tenant line : ℕ) (l : List ℕ) → Good l → number_given (opening tenant line) l ≡ 0
      → line_in (run (opening tenant line) l).table tenant line ≡ Some fresh
  -- and its tenant's listing says so: the lines as they were, with this one among them
  pub taken_over_listed : (tenant line room : ℕ) (l : List ℕ) → Good l → number_given (opening tenant line) l ≡ 0 → listing_room ≤ room
      → (run (listing tenant room) (run (opening tenant line) l).table).answer.buffer
      ≡ padded room (list_from 0 (set (row (own_line tenant (slots_of l)) 0 (suc last_line)) line (Some fresh)))
  -- the answer to every call has its count of numbers, and its buffer has the length that was lent, so that what is written fits it
  pub answer_count : (c : Call) (l : List ℕ) → length (run c l).answer.numbers ≡ count_of c
  pub answer_room : (c : Call) (l : List ℕ) → length (run c l).answer.buffer ≡ room_of c
  -- every history leaves a sound table, from the empty one and from any sound one
  pub history_sound : (h : List Call) → all_of is_octets h ≡ true → Good (table_after h (zeros table_length))
  pub history_sound_from : (h : List Call) (l : List ℕ) → all_of is_octets h ≡ true → Good l → Good (table_after h l)
  -- if the same calls remain after striking out the other tenants' calls that are neither open nor close, a tenant gets the same answers
  pub isolation : (a : ℕ) (g h : List Call) → all_of is_octets g ≡ true → all_of is_octets h ≡ true → remaining a g ≡ remaining a h
      → answers_to a g (zeros table_length) ≡ answers_to a h (zeros table_length)
  -- the same from any two tables that are alike to the tenant
  pub isolation_from : (a : ℕ) (g h : List Call) → all_of is_octets g ≡ true → all_of is_octets h ≡ true → remaining a g ≡ remaining a h
      → (l m : List ℕ) → Alike a l m → answers_to a g l ≡ answers_to a h m
