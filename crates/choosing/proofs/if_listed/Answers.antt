-- `choosing::if_listed` meets its contract: the registered PLMN must be listed, and then not be barred.
use mathlib.Core.Bool.{not, ◌&&◌}
use mathlib.Core.Path.{◌≡◌, sym, ap, ◌∙◌}
use Rattle.network.specs.Plmn.{among}
use Rattle.config.specs.Settings.{settings_of}
use Rattle.lists.specs.Lists.{networks_in}
use Rattle.preference.specs.Preference.{unbarred}
use Rattle.selection.specs.Selection.{if_listed}
use Rattle.choosing.proofs.Kept.{listed}
use Rattle.choosing.proofs.if_listed.Goals as goal
use Rattle.choosing.proofs.if_listed.Goals.{then-is_listed, else-is_listed}

pub returns-in_err-p : goal.returns-in_err-p
unfolding if_listed
returns-in_err-p c = c.from_residual.ensures ∙ sym (rw c.in_err-p.was)

pub returns : goal.returns
unfolding unbarred
returns c =
    let s = settings_of c.args.configuration in
    let ps = networks_in c.args.networks.now in
    let p = c.in_ok-p.p in
    let both : c.if-is_listed.counts ≡ among p ps && unbarred s p =
    elim c.if-is_listed.branch [
      | then-is_listed w ↦ rw (w.counts-is, sym c.is_listed.ensures ∙ w.if-is_listed.true) (ap not w.is_barred.ensures)
      | else-is_listed w ↦ rw (w.counts-is, sym c.is_listed.ensures ∙ w.if-is_listed.false) w.if-is_listed.false
    ] in
    c.then_some.ensures ∙ listed s ps c.args.registered p c.if-is_listed.counts c.in_ok-p.was both
