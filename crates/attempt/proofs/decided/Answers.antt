-- `attempt::decided` meets its contract: the choice says the phase and the action, and the name that it needs is built and lies in its slice.
use borrow.Author.Rules.{rules}
use Rattle.query.proofs.Names.{lies}
use Rattle.attempt.proofs.Parts.{answers_one, asks_built, asks_country_lem, asks_text, says, stops}
use Rattle.attempt.proofs.decided.Goals as goal

pub asked-length-requires : goal.asked-length-requires
asked-length-requires c =
    lies _ _ _ _ _ c.requires.0 c.build-n.ensures (search rules)

pub returns-in-Stop : goal.returns-in-Stop
returns-in-Stop c =
    let build = c.build-n in
    λ x held. says x _ _ _ _ _ _ _ c.requires.0 build.ensures (search rules) (stops x _ _ _ _ c.in-Stop.is)

pub returns-in-Country : goal.returns-in-Country
returns-in-Country c =
    let build = c.build-n in
    λ x held. says x _ _ _ _ _ _ _ c.requires.0 build.ensures (search rules) (asks_country_lem x _ _ _ _ c.asked-length.ensures _ c.in-Country.is)

pub returns-in-Text : goal.returns-in-Text
returns-in-Text c =
    let build = c.build-n in
    λ x held. says x _ _ _ _ _ _ _ c.requires.0 build.ensures (search rules) (asks_text x _ _ _ _ c.asked-length.ensures _ _ c.in-Text.is c.requires.0)

pub returns-in-Network : goal.returns-in-Network
returns-in-Network c =
    let build = c.build-n in
    λ x held. says x _ _ _ _ _ _ _ c.requires.0 build.ensures (search rules) (asks_built x _ _ _ _ c.asked-length.ensures _ c.in-Network.is)

pub returns-in-Address : goal.returns-in-Address
returns-in-Address c =
    let build = c.build-n in
    λ x held. says x _ _ _ _ _ _ _ c.requires.0 build.ensures (search rules)
    (answers_one x _ _ _ _ c.in-Address.is _ (c.choose_one.ensures _ (held _ c.in-Address.is)) _ c.from.ensures)
