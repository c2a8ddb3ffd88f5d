-- `records::keep_standing_at` meets its contract: the octets of one record are those of the line that goes on.
use Rattle.records.proofs.Within.{goes_at, lent_size, lent_sound}
use Rattle.records.proofs.keep_standing_at.Goals as goal

pub keep_standing-requires : goal.keep_standing-requires
keep_standing-requires c =
    let used = c.requires in
    (lent_size _ _ used, lent_sound _ _ used)

pub returns : goal.returns
returns c =
    let a = c.args in
    let used = c.requires in
    let put = c.keep_standing in
    goes_at a.table.now a.i used a.time a.s (λ x. x) _ put.ensures put.auto.b
