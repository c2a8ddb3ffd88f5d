-- `response::write_response` meets its contract: what is accepted fits the buffer, which is zeros then.
use Rattle.std.proofs.Common.{sym, ap, ◌∙◌, arith, rules}
use Rattle.refusal.specs.Numbers.{number_in}
use Rattle.response.proofs.Writing.{accepted}
use Rattle.response.proofs.write_response.Goals as goal

pub fill_response-requires : goal.fill_response-requires
fill_response-requires c =
    let ok = accepted _ _ _ _ (sym c.check_writable.ensures ∙ ap number_in c.in_ok-check_writable.was) in
    (omega arith, search rules)
