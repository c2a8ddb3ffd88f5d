-- `entries::line::begins` meets its contract: the octets from the place on begin with those that are sought.
use Rattle.std.proofs.Common.{drop, length-drop, arith}
use Rattle.std.proofs.lemmas.List.{take_all}
use Rattle.entries.proofs.Words.{begins_is}
use Rattle.entries.proofs.line.begins.Goals as goal

pub returns : goal.returns
returns c =
    let a = c.args in
    begins_is a.text.now a.at a.octets.now c.requires _ (take_all _ (drop a.at a.text.now) (omega (arith, length-drop a.at a.text.now))) _ c.starts_with.ensures.bound c.starts_with.ensures.value
