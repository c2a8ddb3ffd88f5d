-- The events that take children of a live line away.
use Rattle.rules.specs.Call.{Event, child_deleted, ike_delete}
use Rattle.tunnel.specs.declared.TunnelEvent.{TunnelEvent}

-- an event of the code as one of the rules
abbrev pub tunnel_event_of : TunnelEvent → Event
tunnel_event_of (TunnelEvent.ChildDeleted spi) = child_deleted spi
tunnel_event_of TunnelEvent.IkeDelete = ike_delete
