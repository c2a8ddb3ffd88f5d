-- `entries::line::preference_at` meets its contract: the word, the PLMN and the priority behind it are the entry.
use Rattle.std.proofs.Common.{subst}
use Rattle.entries.specs.Branch.{BeginsIs}
use Rattle.entries.proofs.Preferences.{preference_is, preference_no_plmn, preference_no_priority, preference_other, word}
use Rattle.entries.proofs.line.preference_at.Goals as goal

pub returns-then-not-begins : goal.returns-then-not-begins
returns-then-not-begins c =
    let a = c.args in
    preference_other a.text.now a.at (subst (BeginsIs a.text.now a.at word) c.if-not-begins.true c.begins.ensures)

pub returns-in_err-plmn : goal.returns-in_err-plmn
returns-in_err-plmn c =
    let a = c.args in
    let begins = subst (BeginsIs a.text.now a.at word) c.if-not-begins.false c.begins.ensures in
    rw c.from_residual.ensures (preference_no_plmn a.text.now a.at begins c.in_err-plmn.ensures)

pub returns-in_err-priority : goal.returns-in_err-priority
returns-in_err-priority c =
    let a = c.args in
    let begins = subst (BeginsIs a.text.now a.at word) c.if-not-begins.false c.begins.ensures in
    rw c.from_residual-in_err-priority.ensures (preference_no_priority a.text.now a.at begins c.in_ok-plmn.plmn c.in_ok-plmn.ensures c.in_err-priority.ensures)

pub returns : goal.returns
returns c =
    let a = c.args in
    let begins = subst (BeginsIs a.text.now a.at word) c.if-not-begins.false c.begins.ensures in
    preference_is a.text.now a.at begins c.in_ok-plmn.plmn c.in_ok-plmn.ensures c.in_ok-priority.priority c.in_ok-priority.ensures
