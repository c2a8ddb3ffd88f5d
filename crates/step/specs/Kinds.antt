-- What an event needs of a line, and what it changes there.
use Rattle.rules.specs.Call.{Event, start, country, address, begin, init, eap, reply, final, error, congestion, give_up, child_made, child_deleted, ike_delete}

-- a move looks at the bare phase and changes where it stands; selection looks at the whole phase and the holds, congestion adds a hold, and a tunnel's event looks at the children too and changes them
pub data Kind : Type 0 where
  selection : Kind
  move : Kind
  congesting : Kind
  tunnel : Kind

abbrev pub kind_of : Event → Kind
kind_of (start g text room) = selection
kind_of (country n networks text room) = selection
kind_of (address list) = selection
kind_of begin = move
kind_of init = move
kind_of (eap packet) = move
kind_of (reply parameters nas room) = move
kind_of (final good) = move
kind_of (error number) = move
kind_of (congestion authenticated timer) = congesting
kind_of give_up = move
kind_of (child_made spi session) = tunnel
kind_of (child_deleted spi) = tunnel
kind_of ike_delete = tunnel
