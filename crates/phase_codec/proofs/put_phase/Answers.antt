-- `phase_codec::put_phase` meets its contract: each phase has its number and its own data.
use Rattle.octets.specs.Digits.{be, digits}
use Rattle.octets.specs.Part.{zeros}
use Rattle.phase.specs.Phase.{phase_octets}
use Rattle.phase.proofs.Writes.{eap_wrote}
use Rattle.phase_codec.proofs.put_phase.Goals as goal

pub returns-in-Idle : goal.returns-in-Idle
unfolding phase_octets be digits zeros
returns-in-Idle c = rw c.in-Idle.is c.put.ensures

pub returns-in-Country : goal.returns-in-Country
unfolding phase_octets
returns-in-Country c = rw c.in-Country.is c.put_asking.ensures

pub returns-in-Name : goal.returns-in-Name
unfolding phase_octets
returns-in-Name c = rw c.in-Name.is c.put_asking-in-Name.ensures

pub returns-in-Chosen : goal.returns-in-Chosen
unfolding phase_octets
returns-in-Chosen c = rw c.in-Chosen.is c.put_having.ensures

pub returns-in-Init : goal.returns-in-Init
unfolding phase_octets
returns-in-Init c = rw c.in-Init.is c.put_having-in-Init.ensures

pub returns-in-Auth : goal.returns-in-Auth
unfolding phase_octets
returns-in-Auth c = rw c.in-Auth.is c.put_having-in-Auth.ensures

pub returns-in-Eap : goal.returns-in-Eap
unfolding phase_octets
returns-in-Eap c =
    rw c.in-Eap.is (eap_wrote _ _ c.put-in-Eap.ensures c.put_address.ensures c.put_turn.ensures)

pub returns-in-Sure : goal.returns-in-Sure
unfolding phase_octets
returns-in-Sure c = rw c.in-Sure.is c.put_having-in-Sure.ensures

pub returns-in-Live : goal.returns-in-Live
unfolding phase_octets
returns-in-Live c = rw c.in-Live.is c.put_having-in-Live.ensures
