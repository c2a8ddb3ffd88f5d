-- `timer::unit_seconds` meets its contract: the test of the whole table computes, and `entry` turns it into the rule at the unit.
use Rattle.octets.specs.Search.{all}
use Rattle.timer.specs.Timer.{unit_seconds}
use Rattle.timer.proofs.Table.{agrees, entry}
use Rattle.timer.proofs.unit_seconds.Goals as goal

pub returns : goal.returns
unfolding agrees all unit_seconds
returns c = search entry
