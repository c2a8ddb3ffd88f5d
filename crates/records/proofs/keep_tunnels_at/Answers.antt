-- `records::keep_tunnels_at` meets its contract: the octets of one record are those of the line with its children.
use Rattle.record.specs.Changes.{with_children}
use Rattle.records.proofs.Within.{goes_at, lent_size, lent_sound}
use Rattle.records.proofs.keep_tunnels_at.Goals as goal

pub keep_tunnels-requires : goal.keep_tunnels-requires
keep_tunnels-requires c =
    let used = c.requires in
    (lent_size _ _ used.0, lent_sound _ _ used.0, used.1)

pub returns : goal.returns
returns c =
    let a = c.args in
    let used = c.requires in
    let put = c.keep_tunnels in
    goes_at a.table.now a.i used.0 a.time a.s (λ x. with_children x a.children.now) _ put.ensures put.auto.b
