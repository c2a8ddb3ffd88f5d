-- `entries::line::home_at` meets its contract: the word and the PLMN behind it are the entry.
use Rattle.std.proofs.Common.{subst}
use Rattle.entries.specs.Branch.{BeginsIs}
use Rattle.entries.proofs.Homes.{home_is, home_other, word}
use Rattle.entries.proofs.line.home_at.Goals as goal

pub returns-then-not-begins : goal.returns-then-not-begins
returns-then-not-begins c =
    let l = c.args.text.now in
    home_other l (subst (BeginsIs l 0 word) c.if-not-begins.true c.begins.ensures)

pub returns : goal.returns
returns c =
    let l = c.args.text.now in
    home_is l (subst (BeginsIs l 0 word) c.if-not-begins.false c.begins.ensures) _ c.plmn_at.ensures
