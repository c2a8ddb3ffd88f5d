-- `fields::read::plmn_at` meets its contract: an MCC, a tab and an MNC are read one behind the other.
use Rattle.fields.proofs.Plmns.{no_mcc, no_mnc, plmn_read}
use Rattle.fields.proofs.read.plmn_at.Goals as goal

pub returns-in_err-mcc : goal.returns-in_err-mcc
returns-in_err-mcc c = rw c.from_residual.ensures (no_mcc c.args.text.now c.args.at c.args.end c.in_err-mcc.ensures)

pub returns-in_err-mnc : goal.returns-in_err-mnc
returns-in_err-mnc c =
    let a = c.args in
    rw c.from_residual-in_err-mnc.ensures (no_mnc a.text.now a.at a.end c.in_ok-mcc.mcc c.in_ok-mcc.ensures c.requires c.in_err-mnc.ensures)

pub returns : goal.returns
returns c =
    let a = c.args in
    plmn_read a.text.now a.at a.end c.in_ok-mcc.mcc c.in_ok-mcc.ensures c.in_ok-mnc.mnc c.in_ok-mnc.ensures
