-- Selection, the signalling of EAP-5G and the final answer change nothing of a line but its phase, and look at its phase alone or, selection, at its holds too.
use Rattle.std.specs.Prelude.{Option, None, Some}
use Prim.Native.Nat.{ℕ}
use mathlib.Core.Bool.{Bool, true, false}
use mathlib.Core.List.{List, [], ◌∷◌}
use mathlib.Core.Path.{◌≡◌, refl}
use Rattle.address.specs.Address.{held_addresses}
use Rattle.address.specs.declared.Address.{Address}
use Rattle.config.specs.Settings.{Settings}
use Rattle.eap.specs.declared.Packet.{Packet}
use Rattle.eap.specs.declared.Packet.TheVariants.{Start, NasRequest, Success, NasResponse, Stop}
use Rattle.gateway.specs.Gateway.{choose}
use Rattle.gateway.specs.declared.Found.{Found}
use Rattle.network.specs.declared.Plmn.{Plmn}
use Rattle.place.specs.declared.Facts.{Facts}
use Rattle.record.specs.Changes.{in_phase, with_holds}
use Rattle.record.specs.Line.{Line}
use Rattle.selection.specs.Selection as Selection
use Rattle.selection.specs.declared.Choice.{Choice}
use Rattle.rules.specs.Life.{Outcome, address_answered, country_answered, decided, finished, gateway_found, goes, keeps, name_asked, packet_taken, replied, started}

-- an outcome with another line
abbrev pub onto : (Line → Line) → Outcome → Outcome
onto put o = record { line = put o.line; action = o.action; part = o.part; written = o.written }

-- the line x in the phase of another
abbrev pub phased : Line → Line → Line
phased x z = in_phase x z.phase

-- S5 takes nothing of a line
pub found_goes : (x z : Line) (f : Found) → gateway_found x f ≡ onto (phased x) (gateway_found z f)
unfolding gateway_found goes in_phase
found_goes x z (Found.Chosen a k) = refl
found_goes x z (Found.Nothing k) = refl

module _ (x y : Line) where
  -- the other line in the same phase
  abbrev seen : Line
  seen = in_phase y x.phase

  pub packet_goes : (packet : List ℕ) (p : Option Packet) → packet_taken x packet p ≡ onto (phased x) (packet_taken seen packet p)
  unfolding packet_taken keeps goes in_phase
  packet_goes packet None = refl
  packet_goes packet (Some (Start i)) = refl
  packet_goes packet (Some (NasRequest i at n)) = refl
  packet_goes packet (Some (Success i)) = refl
  packet_goes packet (Some (NasResponse i p m at n)) = refl
  packet_goes packet (Some (Stop i)) = refl

  pub replied_goes : (parameters nas : List ℕ) (o : Option ℕ) → replied x parameters nas o ≡ onto (phased x) (replied seen parameters nas o)
  unfolding replied goes in_phase
  replied_goes parameters nas None = refl
  replied_goes parameters nas (Some i) = refl

  pub finished_goes : (b : Bool) → finished x b ≡ onto (phased x) (finished seen b)
  unfolding finished keeps goes in_phase
  finished_goes true = refl
  finished_goes false = refl

  -- the other line in the same phase with the same holds
  abbrev held : Line
  held = with_holds seen x.holds

  decided_goes : (f : Facts) (t : List ℕ) (c : Choice) → decided x f t c ≡ onto (phased x) (decided held f t c)
  unfolding decided goes name_asked in_phase with_holds
  decided_goes f t (Choice.Stop n) = refl
  decided_goes f t (Choice.Country mcc) = refl
  decided_goes f t (Choice.Text at n) = refl
  decided_goes f t (Choice.Network p) = refl
  decided_goes f t (Choice.Address a) = found_goes x held (choose f.version (held_addresses x.holds) (a ∷ []))

  pub started_goes : (f : Facts) (t : List ℕ) (o : Option Settings) → started x f t o ≡ onto (phased x) (started held f t o)
  unfolding started goes in_phase
  started_goes f t None = refl
  started_goes f t (Some s) = decided_goes f t (Selection.start s f)

  pub answered_goes : (o : Option Facts) (ps : Option (List Plmn)) (t : List ℕ) (s : Option Settings)
      → country_answered x o ps t s ≡ onto (phased x) (country_answered held o ps t s)
  unfolding country_answered goes in_phase
  answered_goes None ps t s = refl
  answered_goes (Some f) ps t None = refl
  answered_goes (Some f) ps t (Some s) = decided_goes f t (Selection.country s f ps)

  pub addressed_goes : (o : Option Facts) (list : List Address) → address_answered x o list ≡ onto (phased x) (address_answered held o list)
  unfolding address_answered goes in_phase with_holds
  addressed_goes None list = refl
  addressed_goes (Some f) list = found_goes x held (choose f.version (held_addresses x.holds) list)
