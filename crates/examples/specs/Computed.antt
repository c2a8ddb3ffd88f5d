-- Histories as they are computed: answers and slots, and the one list of all definitions that their computation goes through.
use Rattle.std.specs.Prelude.{ℕ, zero, suc, List, [], ◌∷◌, ◌++◌, ◌≡◌, refl, length, replicate}
use Rattle.std.proofs.Common.{◌∙◌, ap}
use Rattle.octets.specs.Digits as Digits
use Rattle.octets.specs.Part as Part
use Rattle.octets.specs.Search as Search
use Rattle.octets.specs.Refusal as Refusal
use Rattle.octets.specs.Row as Row
use Rattle.text.specs.Text as Text
use Rattle.timer.specs.Timer as Timer
use Rattle.network.specs.Plmn as Plmn
use Rattle.network.specs.Name as Name
use Rattle.parameters.specs.Parameters as Parameters
use Rattle.eap.specs.Packet as Packet
use Rattle.response.specs.Response as Response
use Rattle.address.specs.Address as Address
use Rattle.entry.specs.Pieces as Pieces
use Rattle.entry.specs.Field as Field
use Rattle.entry.specs.Entry as Entry
use Rattle.config.specs.Lines as Lines
use Rattle.config.specs.Settings as Settings
use Rattle.addresses.specs.Addresses as Addresses
use Rattle.lists.specs.Lists as Lists
use Rattle.gateway.specs.Gateway as Gateway
use Rattle.preference.specs.Preference as Preference
use Rattle.selection.specs.Selection as Selection
use Rattle.selection.specs.Query as Query
use Rattle.holds.specs.Holds as Holds
use Rattle.children.specs.Children as Children
use Rattle.children.specs.Laws as ChildLaws
use Rattle.phase.specs.Chosen as Chosen
use Rattle.phase.specs.Stage as Stage
use Rattle.record.specs.Changes as RecordChanges
use Rattle.table.specs.Slots as TableSlots
use Rattle.table.specs.Table.{record_count}
use Rattle.rules.specs.Call as RulesCall
use Rattle.rules.specs.Answer as RulesAnswer
use Rattle.rules.specs.Phases as RulesPhases
use Rattle.rules.specs.Refusals as RulesRefusals
use Rattle.rules.specs.Life as RulesLife
use Rattle.rules.specs.Listing as RulesListing
use Rattle.rules.specs.View as RulesView
use Rattle.rules.specs.Run as RulesRun
use Rattle.rules.specs.OnSlots as RulesOnSlots
use Rattle.octets.specs.Row.{joined}
use Rattle.table.specs.Slots.{Slot, Free}
use Rattle.rules.specs.Answer.{Answer}
use Rattle.rules.specs.Call.{Call}
use Rattle.rules.specs.OnSlots.{answers_on, run_on}

unfoldable pub empty : List Slot
empty = replicate record_count Free

-- the slots that a history leaves
unfoldable pub slots_on : List Call → List Slot → List Slot
slots_on [] ss = ss
slots_on (c ∷ h) ss = slots_on h (run_on c ss).slots

unfoldable pub slots_after : List Call → List Slot
unfolding empty slots_on
    Digits.digits Digits.number_from Digits.number Digits.be Digits.field
    Part.part Part.zeros Part.padded Part.same Part.zeros_at Part.octet_is
    Search.all Search.least Search.all_of Search.any_of Search.distinct
    Refusal.refusal
    Row.row Row.joined Row.place Row.first Row.keep Row.only
    Text.text Text.character Text.digit Text.digit_text Text.is_digit Text.read_digits Text.short_enough Text.decimal_width Text.decimal
    Timer.unit_seconds Timer.timer_of
    Plmn.same_plmn Plmn.among
    Name.operator_name Name.visited_name
    Parameters.well_formed_in Parameters.well_formed Parameters.size
    Packet.code Packet.identifier Packet.length_field Packet.type_field Packet.vendor Packet.vendor_type Packet.message Packet.is_success
    Packet.is_expanded Packet.is_message Packet.fits Packet.is_nas Packet.is_parameters Packet.is_nas_request Packet.nas_place
    Packet.is_nas_response Packet.is_request Packet.read_packet
    Response.header Response.block Response.response Response.lent_out_of_range
    Address.is_version Address.version_of Address.width_of Address.number_of Address.high Address.low Address.address_of Address.same_address Address.stands Address.address_in
    Address.permitted
    Pieces.before Pieces.pieces
    Field.plmn_from Field.plmn_of Field.plain Field.priority_of Field.is_name_character Field.is_name
    Entry.home_entry Entry.bar_entry Entry.plmn_entry Entry.before_name Entry.name_entry Entry.address_entry Entry.version_entry Entry.node_entry
    Entry.three Entry.four Entry.entry_of Entry.line_entry
    Lines.last_entry Lines.entries Lines.entries_from Lines.line_end
    Settings.plmn_in Settings.accepted Settings.as_home Settings.as_node Settings.as_listed Settings.taken Settings.section
    Settings.left Settings.rest Settings.is_end Settings.first_node Settings.after_node Settings.settle
    Settings.with_home Settings.from_home Settings.name_place Settings.config_of
    Addresses.address_octets Addresses.version_from Addresses.address_from Addresses.is_address
    Lists.whole Lists.network_at Lists.network_fits Lists.networks_fit Lists.networks_in Lists.address_at Lists.address_fits Lists.addresses_fit
    Lists.addresses_in
    Gateway.found_at Gateway.choose
    Preference.has_plmns Preference.provisioned Preference.barred Preference.unbarred Preference.preferred
    Preference.visited Preference.offered Preference.eligible Preference.better Preference.best Preference.network_of Preference.ranked
    Preference.unranked
    Selection.home_abroad Selection.counting Selection.registered Selection.by_node Selection.at_home Selection.direct Selection.abroad
    Selection.start_at Selection.start Selection.ask_or Selection.if_listed Selection.one_or_more Selection.none_listed Selection.country
    Selection.country_reply
    Query.built Query.asked
    Holds.end_after Holds.ends_after
    Children.is_spi Children.is_other Children.has_spi Children.child_fits ChildLaws.child_storable
    Chosen.chosen
    TableSlots.pair_in TableSlots.is_of TableSlots.is_open TableSlots.slot_line TableSlots.line_at TableSlots.replaced
    RulesCall.tenant_of RulesCall.pair_of RulesCall.start_numbers_fit RulesCall.place_of RulesCall.registered_of RulesCall.facts_of
    RulesAnswer.twelve RulesAnswer.numbers_of RulesAnswer.event_room RulesAnswer.room_of RulesAnswer.refused
    Stage.is_in RulesPhases.underway RulesPhases.facts_in RulesPhases.turn_in RulesPhases.is_first RulesPhases.owed
    RulesPhases.last_reply
    RulesView.own_line RulesView.view_of RulesView.line_seen RulesView.fresh RulesView.line_or RulesView.line_found
    RulesRefusals.is_above_last RulesRefusals.is_no_pair RulesRefusals.least_event_room RulesRefusals.least_room RulesRefusals.is_short
    RulesRefusals.is_open_already RulesRefusals.is_not_open RulesRefusals.is_full RulesRefusals.is_early
    RulesRefusals.is_long RulesRefusals.is_home_abroad RulesRefusals.waits_home_abroad RulesRefusals.bad_networks RulesRefusals.lacks_parameters
    RulesRefusals.is_child RulesRefusals.is_out_of_range RulesRefusals.is_some_request RulesRefusals.is_malformed RulesRefusals.is_identifier RulesRefusals.is_due
    RulesRefusals.is_allowed RulesRefusals.is_spi_taken RulesRefusals.has_no_room RulesRefusals.is_held_full
    RulesRefusals.refusals_of RulesRefusals.event_refusals RulesRefusals.refusals
    RecordChanges.current RecordChanges.in_phase RulesLife.goes RulesLife.onward RulesLife.keeps RulesLife.gateway_found RulesLife.name_asked
    RulesLife.decided RulesLife.started RulesLife.country_answered RulesLife.address_answered RulesLife.packet_taken RulesLife.replied RulesLife.finished
    RulesLife.ended RulesLife.timer_hold RulesLife.chosen_hold RulesLife.congested RecordChanges.with_children RulesLife.outcome
    RulesListing.tab RulesListing.newline RulesListing.word RulesListing.address_text RulesListing.child_text RulesListing.line_text RulesListing.list_from
    RulesRun.bare RulesRun.answer_of RulesRun.timed_step RulesRun.step
    RulesOnSlots.applied_on RulesOnSlots.settled_on RulesOnSlots.run_on RulesOnSlots.answers_on
slots_after h = slots_on h empty

-- the answers to calls that follow others
unfoldable pub answers_after : List Call → List Call → List Answer
unfolding slots_after
answers_after before calls = answers_on calls (slots_after before)

-- an answer as numbers, each of its lists behind its length
unfoldable pub counted : List ℕ → List ℕ
counted l = length l ∷ l

unfoldable pub answer_numbers : Answer → List ℕ
unfolding counted
answer_numbers a = a.refusal ∷ counted a.numbers ++ counted a.part ++ counted a.buffer

-- the same list, with every number computed before any of them is compared
unfoldable pub behind : ℕ → List ℕ → List ℕ
behind zero [] = zero ∷ []
behind zero (y ∷ ys) = zero ∷ y ∷ ys
behind (suc n) [] = suc n ∷ []
behind (suc n) (y ∷ ys) = suc n ∷ y ∷ ys

unfoldable pub evaluated : List ℕ → List ℕ
unfolding behind
evaluated [] = []
evaluated (x ∷ xs) = behind x (evaluated xs)

-- and it is the same list
behind_is : (x : ℕ) (xs : List ℕ) → behind x xs ≡ x ∷ xs
unfolding behind
behind_is zero [] = refl
behind_is zero (y ∷ ys) = refl
behind_is (suc n) [] = refl
behind_is (suc n) (y ∷ ys) = refl

pub evaluated_is : (l : List ℕ) → evaluated l ≡ l
unfolding evaluated
evaluated_is [] = refl
evaluated_is (x ∷ xs) = behind_is x (evaluated xs) ∙ ap (λ ys. x ∷ ys) (evaluated_is xs)

-- a history: calls that come first, the calls that are looked at, and what those answer
pub record Example : Type 0 where
  pub before : List Call
  pub calls : List Call
  pub says : List Answer

unfoldable pub got : Example → List ℕ
unfolding answers_after answer_numbers evaluated
got e = evaluated (joined answer_numbers (answers_after e.before e.calls))

unfoldable pub said : Example → List ℕ
unfolding answer_numbers
said e = joined answer_numbers e.says
