-- Lines on both sides of each condition of a sound line ('The table and who sits in it'), each under the sentence that it shows.
use Rattle.std.specs.Prelude.{ℕ, Bool, true, false, List, [], ◌∷◌, ◌++◌, map, ◌≡◌, refl, Option, None, Some}
use Rattle.octets.specs.Row.{row}
use Rattle.octets.specs.Search.{all_of, any_of, distinct}
use Rattle.address.specs.Address.{address_in, is_version, number_of, same_address, stands, version_of}
use Rattle.address.specs.declared.Address.{Address}
use Rattle.address.specs.declared.Address.TheVariants.{V4, V6}
use Rattle.address.specs.declared.End.TheVariants.{At, Never}
use Rattle.address.specs.declared.Hold.{Hold}
use Rattle.children.specs.Children.{child_fits, is_spi, same_spi, spis_differ}
use Rattle.children.specs.declared.Child.{Child}
use Rattle.holds.specs.Holds.{different, end_after, ends_after}
use Rattle.network.specs.declared.Plmn.{Plmn}
use Rattle.phase.specs.Chosen.{chosen}
use Rattle.phase.specs.Facts.{facts_fit, place_fits, registered_fits}
use Rattle.phase.specs.Phase.{is_abroad, phase_fits}
use Rattle.phase.specs.Stage.{is_in}
use Rattle.phase.specs.declared.Phase.{Phase}
use Rattle.phase.specs.declared.Phase.TheVariants.{Idle, Country, Name, Chosen, Init, Auth, Eap, Sure, Live}
use Rattle.phase.specs.declared.Turn.TheVariants.{First, Owed, Answered}
use Rattle.place.specs.declared.Facts.{Facts}
use Rattle.place.specs.declared.Place.{Place}
use Rattle.place.specs.declared.Place.TheVariants.{Unknown, Home, Abroad}
use Rattle.record.specs.Line.{Line}
use Rattle.record.specs.Sound.{children_sound, chosen_free, holds_sound, in_range, line_sound}

-- place facts, a registered PLMN, a hold without end, holds for n addresses, a child, and n children with session 1
unfoldable pub facts : Place → Option Plmn → ℕ → Facts
facts place registered version = record { place = place; registered = registered; version = version }

unfoldable pub plmn : ℕ → ℕ → Option Plmn
plmn mcc mnc = Some (record { mcc = mcc; mnc = mnc })

unfoldable pub held_always : Address → Hold
held_always a = record { address = a; end = Never }

unfoldable pub held_each : ℕ → List Hold
unfolding held_always
held_each n = row (λ x. held_always (V4 x)) 1 n

unfoldable pub child : ℕ → ℕ → Child
child spi session = record { spi = spi; session = session }

unfoldable pub child_each : ℕ → List Child
unfolding child
child_each n = row (λ spi. child spi 1) 0x100 n

-- the phases that wait for a name, those with 192.0.2.7 chosen before live, live, and all but idle
unfoldable pub name_phases : List Phase
unfolding facts
name_phases = Country (facts (Abroad 901) None 4) ∷ Name (facts Home None 4) ∷ []

unfoldable pub before_live : List Phase
before_live =
    Chosen (V4 0xc0000207) ∷ Init (V4 0xc0000207) ∷ Auth (V4 0xc0000207) ∷ Eap (V4 0xc0000207) (First 7) ∷ Eap (V4 0xc0000207) (Owed 7)
    ∷ Eap (V4 0xc0000207) (Answered 7) ∷ Sure (V4 0xc0000207) ∷ []

unfoldable pub live : Phase
live = Live (V4 0xc0000207)

unfoldable pub busy : List Phase
unfolding name_phases before_live live
busy = name_phases ++ before_live ++ live ∷ []

-- a line with last time 100, and whether it is sound
pub record Judged : Type 0 where
  pub line : Line
  pub says : Bool

unfoldable pub line : Phase → List Hold → List Child → Line
line p hs cs = record { time = 100; phase = p; holds = hs; children = cs }

unfoldable pub alone : Bool → Phase → Judged
unfolding line
alone b p = record { line = line p [] []; says = b }

unfoldable pub bearing : Bool → List Child → Phase → Judged
unfolding line
bearing b cs p = record { line = line p [] cs; says = b }

unfoldable pub holding : Bool → List Hold → Phase → Judged
unfolding line
holding b hs p = record { line = line p hs []; says = b }

unfoldable pub sounds : List Judged
unfolding alone name_phases bearing before_live busy child child_each facts held_always held_each holding live plmn
sounds =
    -- every phase with its own data
    map (alone true) (Idle ∷ busy)
    -- phase country only abroad, and an unknown place is never kept
    ++ map (alone false) (Country (facts Home None 4) ∷ Country (facts Unknown None 4) ∷ Name (facts Unknown None 4) ∷ [])
    -- MCC and MNC 0 to 999, of the place and of the registered PLMN
    ++ map (alone true) (Country (facts (Abroad 999) (plmn 999 999) 4) ∷ Name (facts (Abroad 999) (plmn 999 999) 4) ∷ [])
    ++ map (alone false)
    (Country (facts (Abroad 1000) None 4) ∷ Name (facts (Abroad 1000) None 4) ∷ Name (facts Home (plmn 1000 999) 4)
    ∷ Name (facts Home (plmn 999 1000) 4) ∷ [])
    -- local IP version 4 or 6
    ++ map (alone true) (Country (facts (Abroad 901) None 6) ∷ Name (facts Home None 6) ∷ [])
    ++ map (alone false) (Country (facts (Abroad 901) None 5) ∷ Name (facts Home None 5) ∷ [])
    -- children only on a live line
    ++ map (bearing false (child_each 1)) (Idle ∷ name_phases ++ before_live)
    -- at most 8 children
    ++ bearing true (child_each 8) live
    ∷ bearing false (child_each 9) live
    -- with different SPIs, whatever the sessions
    ∷ bearing true (child 0x100 1 ∷ child 0x101 1 ∷ child 0x102 1 ∷ []) live
    ∷ bearing false (child 0x100 1 ∷ child 0x101 1 ∷ child 0x100 2 ∷ []) live
    -- SPI from 256, session 1 to 15
    ∷ bearing true (child 256 1 ∷ child 257 15 ∷ []) live
    ∷ bearing false (child 255 1 ∷ []) live
    ∷ bearing false (child 256 0 ∷ []) live
    ∷ bearing false (child 256 16 ∷ []) live
    -- at most 8 holds
    ∷ holding true (held_each 8) Idle
    ∷ holding false (held_each 9) Idle
    -- at most 7 unless the line is idle
    ∷ map (holding true (held_each 7)) busy
    ++ map (holding false (held_each 8)) busy
    -- for different addresses, of one version or two, whatever their ends
    ++ holding true (held_always (V4 1) ∷ held_always (V6 0 1) ∷ held_always (V4 2) ∷ held_always (V6 1 1) ∷ []) Idle
    ∷ holding false (held_always (V4 1) ∷ held_always (V4 2) ∷ record { address = V4 1; end = At 101 } ∷ []) Idle
    ∷ holding false (held_always (V6 1 2) ∷ held_always (V6 1 2) ∷ []) Idle
    -- none of them the chosen one
    ∷ map (holding true (held_always (V4 0xc0000208) ∷ held_always (V6 0 0xc0000207) ∷ [])) (live ∷ before_live)
    ++ map (holding false (held_always (V4 0xc0000208) ∷ held_always (V4 0xc0000207) ∷ [])) (live ∷ before_live)
    -- each ending after the line's last time
    ++ holding true (record { address = V4 1; end = At 101 } ∷ []) Idle
    ∷ holding false (record { address = V4 1; end = At 100 } ∷ []) Idle
    ∷ holding false (held_always (V4 2) ∷ record { address = V4 1; end = At 100 } ∷ []) Idle
    ∷ []

unfoldable pub sound_got : Judged → Bool
unfolding address_in all_of any_of child_fits children_sound chosen chosen_free different distinct end_after ends_after facts_fit holds_sound in_range is_abroad is_in
    is_spi is_version line_sound number_of phase_fits place_fits registered_fits same_address same_spi spis_differ stands version_of
sound_got e = line_sound e.line

unfoldable pub sound_said : Judged → Bool
sound_said e = e.says

pub sounds_computed : map sound_got sounds ≡ map sound_said sounds
unfolding row sounds sound_got sound_said
sounds_computed = refl
