-- The events that come with numbers alone and change only the phase.
use Rattle.rules.specs.Call.{Event, begin, error, final, give_up, init}
use Rattle.ike.specs.declared.event.IkeEvent.{IkeEvent}

-- an event of the code as one of the rules
abbrev pub event_of : IkeEvent → Event
event_of IkeEvent.Begin = begin
event_of IkeEvent.InitAnswer = init
event_of (IkeEvent.FinalAnswer good) = final good
event_of (IkeEvent.Error number) = error number
event_of IkeEvent.GiveUp = give_up
