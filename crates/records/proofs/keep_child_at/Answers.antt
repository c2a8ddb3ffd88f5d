-- `records::keep_child_at` meets its contract: the octets of one record are those of the line with one child more.
use mathlib.Core.List.{[], ◌∷◌, ◌++◌}
use native.Mathlib.Omega.{arith}
use Rattle.record.specs.Changes.{with_children}
use Rattle.records.proofs.Within.{goes_at, lent_children, lent_size, lent_sound}
use Rattle.records.proofs.keep_child_at.Goals as goal

pub keep_child-requires : goal.keep_child-requires
keep_child-requires c =
    let used = c.requires in
    let a = c.args in
    (lent_size _ _ used.0, lent_sound _ _ used.0, omega (arith, lent_children a.table.now a.i, used.1))

pub returns : goal.returns
returns c =
    let a = c.args in
    let used = c.requires in
    let put = c.keep_child in
    goes_at a.table.now a.i used.0 a.time a.s (λ x. with_children x (x.children ++ a.child ∷ [])) _ put.ensures put.auto.b
