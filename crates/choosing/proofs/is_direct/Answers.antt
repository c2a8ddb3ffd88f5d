-- `choosing::is_direct` meets its contract: three tests, one after another.
use mathlib.Core.Bool.{not, ◌&&◌}
use mathlib.Core.Path.{◌≡◌, sym, ap, ◌∙◌}
use Rattle.config.specs.Settings.{settings_of}
use Rattle.preference.specs.Preference.{provisioned, unbarred}
use Rattle.selection.specs.Selection.{direct}
use Rattle.choosing.proofs.is_direct.Goals as goal
use Rattle.choosing.proofs.is_direct.Goals.{then-is_provisioned, else-is_provisioned}

pub returns-then-not-is_barred : goal.returns-then-not-is_barred
unfolding direct unbarred
returns-then-not-is_barred c =
    let s = settings_of c.args.configuration in
    let both : c.if-is_provisioned.value ≡ provisioned s && unbarred s c.args.p =
    elim c.if-is_provisioned.branch [
      | then-is_provisioned w ↦ rw (w.value-is, sym c.is_provisioned.ensures ∙ w.if-is_provisioned.true) (ap not w.is_barred.ensures)
      | else-is_provisioned w ↦ rw (w.value-is, sym c.is_provisioned.ensures ∙ w.if-is_provisioned.false) w.if-is_provisioned.false
    ] in
    rw (sym both ∙ c.if-not-is_barred.true) c.is_preferred.ensures

pub returns-else-not-is_barred : goal.returns-else-not-is_barred
unfolding direct unbarred
returns-else-not-is_barred c =
    let s = settings_of c.args.configuration in
    let both : c.if-is_provisioned.value ≡ provisioned s && unbarred s c.args.p =
    elim c.if-is_provisioned.branch [
      | then-is_provisioned w ↦ rw (w.value-is, sym c.is_provisioned.ensures ∙ w.if-is_provisioned.true) (ap not w.is_barred.ensures)
      | else-is_provisioned w ↦ rw (w.value-is, sym c.is_provisioned.ensures ∙ w.if-is_provisioned.false) w.if-is_provisioned.false
    ] in
    rw (sym both ∙ c.if-not-is_barred.false) c.if-not-is_barred.false
