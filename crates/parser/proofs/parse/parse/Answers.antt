-- `parser::parse::parse` meets its contract: `home` comes first, and what follows it decides.
use Rattle.std.proofs.Common.{◌∙◌}
use Rattle.parser.proofs.Wholes.{bad_bars, bad_plmns, finished, home_settled, more_behind}
use Rattle.parser.proofs.parse.parse.Goals as goal

pub returns-in_err-plmns-clause-result_after : goal.returns-in_err-plmns-clause-result_after
returns-in_err-plmns-clause-result_after c =
    let node = c.optional_node-node in
    rw c.from_residual-in_err-plmns.ensures
    (bad_plmns c.args.text.now c.in_ok-home.home.value node.result.value node.result.next c.collect.new.list c.args.barred.now c.in_err-plmns.ensures
    ∙ home_settled c.args.text.now c.in_ok-home.home c.in_ok-home.ensures node.result node.ensures)

pub returns-in_err-bars-clause-result_after : goal.returns-in_err-bars-clause-result_after
returns-in_err-bars-clause-result_after c =
    let node = c.optional_node-node in
    rw c.from_residual-in_err-bars.ensures
    (bad_bars c.args.text.now c.in_ok-home.home.value node.result.value node.result.next c.collect.new.list c.collect-2.new.list c.in_ok-plmns.plmns c.in_ok-plmns.ensures c.in_err-bars.ensures
    ∙ home_settled c.args.text.now c.in_ok-home.home c.in_ok-home.ensures node.result node.ensures)

pub returns-then-bars-text-clause-result_after : goal.returns-then-bars-text-clause-result_after
returns-then-bars-text-clause-result_after c =
    let node = c.optional_node-node in
    more_behind c.args.text.now c.in_ok-home.home.value node.result.value node.result.next c.collect.new.list c.collect-2.new.list c.in_ok-plmns.plmns c.in_ok-plmns.ensures c.in_ok-bars.bars c.in_ok-bars.ensures c.if-bars-text.true
    ∙ home_settled c.args.text.now c.in_ok-home.home c.in_ok-home.ensures node.result node.ensures

pub returns-clause-result_after : goal.returns-clause-result_after
returns-clause-result_after c =
    let node = c.optional_node-node in
    finished c.args.text.now c.in_ok-home.home.value node.result.value node.result.next c.collect.new.list c.collect-2.new.list c.in_ok-plmns.plmns c.in_ok-plmns.ensures c.in_ok-bars.bars c.in_ok-bars.ensures c.if-bars-text.false
    ∙ home_settled c.args.text.now c.in_ok-home.home c.in_ok-home.ensures node.result node.ensures
