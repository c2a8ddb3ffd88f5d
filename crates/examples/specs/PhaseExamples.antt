-- The table of 'Life of a line' whole: every event tried in every phase, at its time, too early, and with a number or list out of its range.
use Rattle.std.specs.Prelude.{ℕ, cond, List, [], ◌∷◌, ◌++◌, map, ◌≡◌, refl, eqb, length, replicate}
use Prim.Native.String.{String}
use Rattle.octets.specs.Part.{zeros}
use Rattle.address.specs.declared.Address.TheVariants.{V4}
use Rattle.addresses.specs.Addresses.{address_octets}
use Rattle.table.specs.Slots.{Slot}
use Rattle.text.specs.Text.{text}
use Rattle.rules.specs.Call.{Event, start, country, address, begin, init, eap, reply, final, error, congestion, give_up, child_made, child_deleted, ike_delete, Call, start_numbers}
use Rattle.examples.specs.Cases.{abroad, at_home, nas, nas_packet, network, node, now, own, parameters, roaming, start_packet, success, to_answered, to_auth, to_chosen, to_country, to_first, to_idle, to_init, to_live, to_name, to_owed, to_sure}
use Rattle.examples.specs.Computed.{evaluated, slots_after}
use Rattle.rules.specs.OnSlots.{run_on}

-- start, country, address, begin, init; EAP Start, NAS, Success of the last reply and of another; reply with AN-parameters and without;
-- final; error; congestion, authenticated and not; give up; child made; child deleted, present, absent and below 256; IKE delete
unfoldable pub events : List Event
unfolding at_home nas nas_packet node parameters roaming start_packet success
events =
    start at_home node 64 ∷ country 1 [] roaming 64 ∷ address (address_octets (V4 0xc0000207)) ∷ begin ∷ init ∷ eap (start_packet 7)
    ∷ eap (nas_packet 7) ∷ eap (success 7) ∷ eap (success 8) ∷ reply parameters nas 3090 ∷ reply [] nas 3090 ∷ final 1 ∷ error 24
    ∷ congestion 1 0x61 ∷ congestion 0 0x61 ∷ give_up ∷ child_made 0x101 1 ∷ child_deleted 0x100 ∷ child_deleted 0x101 ∷ child_deleted 1
    ∷ ike_delete ∷ []

-- each event that has a number, a list or a text, with one out of its range
unfoldable pub beyond_range : List Event
unfolding abroad at_home nas network node parameters roaming start_numbers
beyond_range =
    start (start_numbers 3 0 0 0 0 4) node 64 ∷ start (abroad 262) node 64 ∷ start at_home (zeros 1025) 64 ∷ country 2 [] roaming 64
    ∷ country 0 (network 901 1) roaming 64 ∷ country 1 (zeros 5) roaming 64 ∷ country 1 (network 1000 1) roaming 64 ∷ country 1 [] (zeros 1025) 64
    ∷ address (4 ∷ zeros 15) ∷ address (5 ∷ zeros 16) ∷ reply parameters [] 3090 ∷ reply parameters (zeros 2049) 3090 ∷ reply (zeros 1025) nas 3090
    ∷ final 2 ∷ error 0 ∷ error 16384 ∷ congestion 2 0x61 ∷ congestion 1 256 ∷ child_made 255 1 ∷ child_made 256 0 ∷ child_made 256 16 ∷ []

-- the refusal number of each event at a time, each tried on the table that the same calls leave
unfoldable pub refusal_at : List Slot → ℕ → Event → ℕ
unfolding own
refusal_at ss time e = (run_on (own time e) ss).answer.refusal

unfoldable pub tried : List Call → ℕ → List Event → List ℕ
unfolding evaluated refusal_at slots_after
tried before time es = evaluated (map (refusal_at (slots_after before) time) es)

-- a mark for each event: x where it is accepted, 8 where it is refused by 8, a dot where it isn't allowed in this phase
unfoldable pub mark_number : ℕ → ℕ
mark_number c = cond (eqb c 120) 0 (cond (eqb c 56) 8 10)

unfoldable pub marks : String → List ℕ
unfolding mark_number
marks s = map mark_number (text s)

-- the calls that bring a line to a phase, the time and the events that are tried there, and their refusal numbers
pub record Phased : Type 0 where
  pub before : List Call
  pub time : ℕ
  pub tries : List Event
  pub says : List ℕ

unfoldable pub allowed : List Call → String → Phased
unfolding events marks
allowed before s = record { before = before; time = 100; tries = events; says = marks s }

-- idle after a stop
unfoldable pub to_stopped : List Call
unfolding node now start_numbers to_idle
to_stopped = to_idle ++ now (start (start_numbers 0 0 0 0 0 4) node 64) ∷ []

-- every phase with time 100, and the column 'Phase before'
unfoldable pub each_phase : List Phased
unfolding allowed now to_answered to_auth to_chosen to_country to_first to_init to_live to_name to_owed to_stopped to_sure
each_phase =
    allowed to_stopped "x...................."
    ∷ allowed to_country ".x.............x....."
    ∷ allowed to_name "..x............x....."
    ∷ allowed to_chosen "...x...........x....."
    ∷ allowed to_init "....x..........x....."
    ∷ allowed to_auth ".....x......xx.x....."
    -- the first reply of a session needs AN-parameters, in any other phase it is 10
    ∷ allowed to_first ".........x8.xx.x....."
    ∷ allowed to_answered "......xx....xx.x....."
    ∷ allowed to_owed ".........xx.xx.x....."
    ∷ allowed to_sure "...........xxx.x....."
    ∷ allowed (to_live ++ now (child_made 0x100 1) ∷ []) "................xx..x"
    ∷ []

-- the same events one tick before the line's time: 7
unfoldable pub early : Phased → Phased
early e = record { before = e.before; time = 99; tries = e.tries; says = replicate (length e.tries) 7 }

-- and after the last time that there is: 8
unfoldable pub late : Phased → Phased
late e = record { before = e.before; time = 4294967296; tries = e.tries; says = replicate (length e.tries) 8 }

-- a number, a list or a text out of its range: 8, allowed in this phase or not
unfoldable pub beyond : Phased → Phased
unfolding beyond_range
beyond e = record { before = e.before; time = 100; tries = beyond_range; says = replicate (length beyond_range) 8 }

unfoldable pub phases : List Phased
unfolding allowed beyond each_phase early late to_idle
phases = allowed to_idle "x...................." ∷ each_phase ++ map early each_phase ++ map late each_phase ++ map beyond each_phase

unfoldable pub phase_got : Phased → List ℕ
unfolding tried
phase_got e = tried e.before e.time e.tries

unfoldable pub phase_said : Phased → List ℕ
phase_said e = e.says

pub phases_computed : map phase_got phases ≡ map phase_said phases
unfolding phases phase_got phase_said
phases_computed = refl
