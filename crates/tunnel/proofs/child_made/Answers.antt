-- `tunnel::child_made` meets its contract: the child stands behind the others where it is not refused.
use mathlib.Core.Path.{sym, ap, ◌∙◌}
use borrow.Author.Rules.{rules}
use Rattle.children.specs.Children.{has_spi}
use Rattle.children.specs.Listed.{children_of}
use Rattle.record.specs.Changes.{with_children}
use Rattle.record.specs.Line.{line_of}
use Rattle.record.proofs.Counts.{counted}
use Rattle.step.proofs.Shown.{passed_on}
use Rattle.tunnel.proofs.child_made.Goals as goal

pub returns-in_err-done : goal.returns-in_err-done
unfolding line_of with_children
returns-in_err-done c =
    let children = c.args.line.children in
    let taken = c.has_spi-taken.ensures ∙ ap (has_spi c.args.spi) c.as_slice.ensures in
    rw (passed_on _ c.from_residual.ensures) (c.in_err-done.ensures.effect_is (children_of children) taken (sym (counted children (search rules))))

pub returns : goal.returns
unfolding line_of with_children
returns c =
    let children = c.args.line.children in
    let taken = c.has_spi-taken.ensures ∙ ap (has_spi c.args.spi) c.as_slice.ensures in
    let line = c.with_children.ensures ∙ ap (with_children (line_of c.in_ok-done.done.line)) c.push.ensures.items in
    rw line (c.in_ok-done.ensures.effect_is (children_of children) taken (sym (counted children (search rules))))
