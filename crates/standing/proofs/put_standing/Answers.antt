-- `standing::put_standing` meets its contract: an idle phase has zeros alone, and any other keeps the octets that are not written.
use Rattle.phase.proofs.Standings.{stood_idle, stood_on}
use Rattle.standing.proofs.put_standing.Goals as goal

pub returns-then-s-eq-IDLE : goal.returns-then-s-eq-IDLE
returns-then-s-eq-IDLE c =
    let a = c.args in
    stood_idle a.list.now a.at a.s c.if-s-eq-IDLE.true c.put.ensures

pub returns : goal.returns
returns c =
    let a = c.args in
    stood_on a.list.now a.at a.s c.requires c.if-s-eq-IDLE.false c.put-2.ensures c.put-3.ensures c.put-4.ensures
