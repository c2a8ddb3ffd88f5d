-- The events of the code are of the kind of their call, and have no answer buffer.
use mathlib.Core.Path.{refl}
use Rattle.ike.specs.Events.{event_of}
use Rattle.ike.specs.declared.event.IkeEvent.{IkeEvent}
use Rattle.tunnel.specs.Events.{tunnel_event_of}
use Rattle.tunnel.specs.declared.TunnelEvent.{TunnelEvent}
use Rattle.rules.specs.Answer.{event_room}
use Rattle.rules.specs.Refusals.{least_event_room}
use Rattle.calls.specs.Steps.{ChangesChildren, ChangesPhase}

pub moves : (e : IkeEvent) → ChangesPhase (event_of e)
unfolding event_room least_event_room
moves IkeEvent.Begin = record { kind_is = refl; has_none = refl; needs_none = refl }
moves IkeEvent.InitAnswer = record { kind_is = refl; has_none = refl; needs_none = refl }
moves (IkeEvent.FinalAnswer good) = record { kind_is = refl; has_none = refl; needs_none = refl }
moves (IkeEvent.Error number) = record { kind_is = refl; has_none = refl; needs_none = refl }
moves IkeEvent.GiveUp = record { kind_is = refl; has_none = refl; needs_none = refl }

pub tunnels : (e : TunnelEvent) → ChangesChildren (tunnel_event_of e)
unfolding event_room least_event_room
tunnels (TunnelEvent.ChildDeleted spi) = record { kind_is = refl; has_none = refl; needs_none = refl }
tunnels TunnelEvent.IkeDelete = record { kind_is = refl; has_none = refl; needs_none = refl }
