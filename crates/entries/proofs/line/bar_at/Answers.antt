-- `entries::line::bar_at` meets its contract: the word and the PLMN behind it are the entry.
use Rattle.std.proofs.Common.{subst}
use Rattle.entries.specs.Branch.{BeginsIs}
use Rattle.entries.proofs.Barred.{bar_is, bar_no_plmn, bar_other, word}
use Rattle.entries.proofs.line.bar_at.Goals as goal

pub returns-then-not-begins : goal.returns-then-not-begins
returns-then-not-begins c =
    let a = c.args in
    bar_other a.text.now a.at (subst (BeginsIs a.text.now a.at word) c.if-not-begins.true c.begins.ensures)

pub returns-in_err-plmn : goal.returns-in_err-plmn
returns-in_err-plmn c =
    let a = c.args in
    let begins = subst (BeginsIs a.text.now a.at word) c.if-not-begins.false c.begins.ensures in
    rw c.from_residual.ensures (bar_no_plmn a.text.now a.at begins c.in_err-plmn.ensures)

pub returns : goal.returns
returns c =
    let a = c.args in
    let begins = subst (BeginsIs a.text.now a.at word) c.if-not-begins.false c.begins.ensures in
    bar_is a.text.now a.at begins c.in_ok-plmn.plmn c.in_ok-plmn.ensures
