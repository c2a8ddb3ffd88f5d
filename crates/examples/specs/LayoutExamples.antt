-- Octets as documents lay them down: records of the table, packets, AN-parameters, and what the writer of responses refuses.
use Rattle.std.specs.Prelude.{ℕ, cond, List, [], ◌∷◌, ◌++◌, map, ◌≡◌, refl, Option, None, Some, Result, Ok, Err}
use Rattle.octets.specs.Part.{zeros}
use Rattle.address.specs.declared.Address.TheVariants.{V4, V6}
use Rattle.address.specs.declared.End.TheVariants.{At, Never}
use Rattle.children.specs.Children.{child_from, child_in, child_octets, children_from, children_octets, children_written, spis_differ}
use Rattle.eap.specs.Packet.{packet_numbers, read_packet}
use Rattle.eap.specs.declared.Packet.{Packet}
use Rattle.holds.specs.Holds.{different, end_number, end_of, has_address, hold_from, hold_in, hold_octets, holds_from, holds_octets, holds_written}
use Rattle.parameters.specs.Parameters.{parameter_at, size}
use Rattle.parameters.specs.declared.Parameter.{Parameter}
use Rattle.parameters.specs.declared.Broken.{Broken}
use Rattle.phase.specs.Facts.{facts_fit, facts_from, facts_octets, facts_written, place_fits, place_from, place_octets, place_written, registered_fits, registered_from, registered_octets, registered_written}
use Rattle.phase.specs.Phase.{asking_octets, having_from, having_octets, phase_fits, phase_from, phase_octets, phase_written, turn_octets}
use Rattle.phase.specs.declared.Phase.TheVariants.{Country, Eap, Live}
use Rattle.phase.specs.declared.Turn.TheVariants.{Owed}
use Rattle.place.specs.declared.Place.TheVariants.{Abroad}
use Rattle.record.specs.Line.{Line}
use Rattle.record.specs.Octets.{line_from, record_octets}
use Rattle.record.specs.Sound.{children_sound, chosen_free, holds_sound, in_range, is_record, line_sound, line_written}
use Rattle.response.specs.Response.{out_of_range, write_refusal}
use Rattle.table.specs.Table.{slot, slot_sound}
use Rattle.examples.specs.Cases.{first_reply, nas, nas_packet, start_packet, success}
use Rattle.examples.specs.Computed.{evaluated, slots_after}

-- what the definitions give, and what the documents lay down
pub record Layout : Type 0 where
  pub gives : List ℕ
  pub says : List ℕ

-- a line abroad that waits for the country answer, one in eap with two holds, and a live one with two children
unfoldable pub waiting : Line
waiting = record {
  time = 0x01020304;
  phase = Country (record { place = Abroad 901; registered = Some (record { mcc = 262; mnc = 3 }); version = 6 });
  holds = [];
  children = [];
}

unfoldable pub in_eap : Line
in_eap = record {
  time = 5;
  phase = Eap (V4 0xc0000207) (Owed 7);
  holds = record { address = V6 0x20010db800000000 1; end = Never } ∷ record { address = V4 0xc0000201; end = At 0x0102030405 } ∷ [];
  children = [];
}

unfoldable pub alive : Line
alive = record {
  time = 6;
  phase = Live (V6 0x20010db800000000 1);
  holds = [];
  children = record { spi = 0xc0de; session = 5 } ∷ record { spi = 0x100; session = 15 } ∷ [];
}

-- 192.0.2.7 and 2001:db8::1 in 17 octets
unfoldable pub entry4 : List ℕ
entry4 = 4 ∷ 0xC0 ∷ 0x00 ∷ 0x02 ∷ 0x07 ∷ zeros 12

unfoldable pub entry6 : List ℕ
entry6 = 6 ∷ 0x20 ∷ 0x01 ∷ 0x0D ∷ 0xB8 ∷ zeros 11 ++ 1 ∷ []

-- an AN-parameter in numbers: 1 and its fields, 0 at the end, 2 where it is broken
unfoldable pub parameter_numbers : Result (Option Parameter) Broken → List ℕ
parameter_numbers (Ok (Some p)) = 1 ∷ p.kind ∷ p.start ∷ p.length ∷ p.next ∷ []
parameter_numbers (Ok None) = 0 ∷ []
parameter_numbers (Err broken) = 2 ∷ []

-- a packet that is read in six numbers, and zeros where it is none
unfoldable pub numbers_read : Option Packet → List ℕ
numbers_read (Some p) = packet_numbers p
numbers_read None = zeros 6

-- 1 where octets are a sound record
unfoldable pub judged : List ℕ → List ℕ
judged l = cond (is_record l) 1 0 ∷ []

-- 1 where octets are a free or a sound record
unfoldable pub judged_slot : List ℕ → List ℕ
judged_slot l = cond (slot_sound l 0) 1 0 ∷ []

unfoldable pub layouts : List Layout
unfolding alive first_reply entry4 in_eap judged judged_slot nas nas_packet numbers_read parameter_numbers entry6 start_packet success waiting
layouts =
    -- a record: pair, time, phase with its data, count of holds, count of children, holds, children
    record {
      gives = record_octets 1 waiting;
      says = 1 ∷ 1 ∷ 2 ∷ 3 ∷ 4 ∷ 1 ∷ 2 ∷ 0x03 ∷ 0x85 ∷ 1 ∷ 0x01 ∷ 0x06 ∷ 0 ∷ 3 ∷ 6 ∷ zeros 228;
    }
    ∷ record {
      gives = record_octets 10 in_eap;
      says =
          10 ∷ 0 ∷ 0 ∷ 0 ∷ 5 ∷ 6 ∷ entry4 ++ 2 ∷ 7 ∷ 2 ∷ 0 ∷ entry6 ++ zeros 5 ++ 4 ∷ 0xC0 ∷ 0x00 ∷ 0x02 ∷ 0x01 ∷ zeros 12 ++ 1 ∷ 2 ∷ 3 ∷ 4 ∷ 5
          ∷ zeros 172;
    }
    ∷ record {
      gives = record_octets 64 alive;
      says =
          64 ∷ 0 ∷ 0 ∷ 0 ∷ 6 ∷ 8 ∷ entry6 ++ 0 ∷ 0 ∷ 0 ∷ 2 ∷ zeros 176 ++ 0x00 ∷ 0x00 ∷ 0xC0 ∷ 0xDE ∷ 5 ∷ 0x00 ∷ 0x00 ∷ 0x01 ∷ 0x00 ∷ 15 ∷ zeros 30;
    }
    -- a pair is 1 to 64
    ∷ record { gives = judged (64 ∷ zeros 242); says = 1 ∷ [] }
    ∷ record { gives = judged (65 ∷ zeros 242); says = 0 ∷ [] }
    -- unused places are zero: those of an idle line's phase, holds and children
    ∷ record { gives = judged (1 ∷ zeros 5 ++ 1 ∷ zeros 236); says = 0 ∷ [] }
    ∷ record { gives = judged (1 ∷ zeros 26 ++ 1 ∷ zeros 215); says = 0 ∷ [] }
    ∷ record { gives = judged (1 ∷ zeros 241 ++ 1 ∷ []); says = 0 ∷ [] }
    -- those behind the last of some holds or children
    ∷ record { gives = judged (1 ∷ zeros 24 ++ 1 ∷ 0 ∷ entry4 ++ zeros 199); says = 1 ∷ [] }
    ∷ record { gives = judged (1 ∷ zeros 24 ++ 1 ∷ 0 ∷ entry4 ++ zeros 5 ++ 1 ∷ zeros 193); says = 0 ∷ [] }
    ∷ record { gives = judged (1 ∷ zeros 4 ++ 8 ∷ entry4 ++ 0 ∷ 0 ∷ 0 ∷ 1 ∷ zeros 176 ++ 0 ∷ 0 ∷ 1 ∷ 0 ∷ 5 ∷ zeros 35); says = 1 ∷ [] }
    ∷ record { gives = judged (1 ∷ zeros 4 ++ 8 ∷ entry4 ++ 0 ∷ 0 ∷ 0 ∷ 1 ∷ zeros 176 ++ 0 ∷ 0 ∷ 1 ∷ 0 ∷ 5 ∷ zeros 34 ++ 1 ∷ []); says = 0 ∷ [] }
    -- those behind the place facts, of a missing visited MCC and of a missing registered PLMN
    ∷ record { gives = judged (1 ∷ zeros 4 ++ 2 ∷ 1 ∷ zeros 7 ++ 4 ∷ zeros 228); says = 1 ∷ [] }
    ∷ record { gives = judged (1 ∷ zeros 4 ++ 2 ∷ 1 ∷ zeros 7 ++ 4 ∷ 1 ∷ zeros 227); says = 0 ∷ [] }
    ∷ record { gives = judged (1 ∷ zeros 4 ++ 2 ∷ 1 ∷ 0 ∷ 1 ∷ zeros 5 ++ 4 ∷ zeros 228); says = 0 ∷ [] }
    ∷ record { gives = judged (1 ∷ zeros 4 ++ 2 ∷ 1 ∷ zeros 6 ++ 1 ∷ 4 ∷ zeros 228); says = 0 ∷ [] }
    -- those behind the chosen address, and behind the four octets of version 4
    ∷ record { gives = judged (1 ∷ zeros 4 ++ 3 ∷ entry4 ++ zeros 220); says = 1 ∷ [] }
    ∷ record { gives = judged (1 ∷ zeros 4 ++ 3 ∷ entry4 ++ 0 ∷ 1 ∷ zeros 218); says = 0 ∷ [] }
    ∷ record { gives = judged (1 ∷ zeros 4 ++ 3 ∷ 4 ∷ 0xC0 ∷ 0x00 ∷ 0x02 ∷ 0x07 ∷ zeros 11 ++ 1 ∷ zeros 220); says = 0 ∷ [] }
    -- and all of a free record's
    ∷ record { gives = judged_slot (zeros 243); says = 1 ∷ [] }
    ∷ record { gives = judged_slot (1 ∷ zeros 242); says = 1 ∷ [] }
    ∷ record { gives = judged_slot (0 ∷ 1 ∷ zeros 241); says = 0 ∷ [] }
    ∷ record { gives = judged_slot (zeros 242 ++ 1 ∷ []); says = 0 ∷ [] }
    -- a packet in six numbers, with spare and extensions ignored
    ∷ record { gives = numbers_read (read_packet (start_packet 7)); says = 1 ∷ 7 ∷ zeros 4 }
    ∷ record { gives = numbers_read (read_packet (nas_packet 8)); says = 2 ∷ 8 ∷ 0 ∷ 0 ∷ 16 ∷ 2 ∷ [] }
    ∷ record { gives = numbers_read (read_packet (success 9)); says = 3 ∷ 9 ∷ zeros 4 }
    ∷ record { gives = numbers_read (read_packet first_reply); says = 2 ∷ 7 ∷ 16 ∷ 3 ∷ 21 ∷ 1 ∷ [] }
    ∷ record {
      gives =
          numbers_read
          (read_packet
          (0x02 ∷ 0x07 ∷ 0x00 ∷ 0x14 ∷ 0xFE ∷ 0x00 ∷ 0x28 ∷ 0xAF ∷ 0x00 ∷ 0x00 ∷ 0x00 ∷ 0x03 ∷ 0x02 ∷ 0x01 ∷ 0x00 ∷ 0x00 ∷ 0x00 ∷ 0x01 ∷ 0x7E ∷ 0xAA
          ∷ []));
      says = 2 ∷ 7 ∷ 16 ∷ 0 ∷ 18 ∷ 1 ∷ [];
    }
    -- AN-parameters: type, where the value starts, how long it is, the next place; the end; one that runs past the end
    ∷ record { gives = parameter_numbers (parameter_at (9 ∷ 1 ∷ 0xAA ∷ 8 ∷ 0 ∷ []) 0); says = 1 ∷ 9 ∷ 2 ∷ 1 ∷ 3 ∷ [] }
    ∷ record { gives = parameter_numbers (parameter_at (9 ∷ 1 ∷ 0xAA ∷ 8 ∷ 0 ∷ []) 3); says = 1 ∷ 8 ∷ 5 ∷ 0 ∷ 5 ∷ [] }
    ∷ record { gives = parameter_numbers (parameter_at (9 ∷ 1 ∷ 0xAA ∷ 8 ∷ 0 ∷ []) 5); says = 0 ∷ [] }
    ∷ record { gives = parameter_numbers (parameter_at (9 ∷ 2 ∷ 0xAA ∷ []) 0); says = 2 ∷ [] }
    -- the writer refuses by 3, 8 and 9, the lowest that applies
    ∷ record {
      gives =
          write_refusal 256 (1 ∷ []) nas 3089 ∷ write_refusal 256 (1 ∷ []) nas 3090 ∷ write_refusal 255 (1 ∷ []) nas 3090
          ∷ write_refusal 255 [] nas 3090 ∷ write_refusal 7 [] [] 3090 ∷ [];
      says = 3 ∷ 8 ∷ 9 ∷ 0 ∷ 8 ∷ [];
    }
    ∷ []

unfoldable pub layout_got : Layout → List ℕ
unfolding asking_octets child_from child_in child_octets children_from children_octets children_sound children_written chosen_free different end_number end_of
    evaluated facts_fit facts_from facts_octets facts_written has_address having_from having_octets hold_from hold_in hold_octets holds_from
    holds_octets holds_sound holds_written in_range is_record line_from line_sound line_written out_of_range packet_numbers
    parameter_at phase_fits phase_from phase_octets phase_written place_fits place_from place_octets place_written record_octets registered_fits
    registered_from registered_octets registered_written size slot slot_sound slots_after spis_differ turn_octets write_refusal
layout_got e = evaluated e.gives

unfoldable pub layout_said : Layout → List ℕ
layout_said e = e.says

pub layouts_computed : map layout_got layouts ≡ map layout_said layouts
unfolding layouts layout_got layout_said
layouts_computed = refl
