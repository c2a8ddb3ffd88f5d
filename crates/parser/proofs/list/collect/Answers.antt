-- `parser::list::collect` meets its contract. The loop's invariant: the entries collected and those that are left make the whole, and no PLMN
-- that is collected stands twice.
use Rattle.std.proofs.Common.{◌≡◌, List, ◌++◌, map, length, take, eqb, refl, sym, ap, ◌∙◌, rules, arith}
use lib.Seq.{length-take-le}
use borrow.Author.Tests.{eqb-false}
use Rattle.octets.specs.Search.{distinct}
use Rattle.octets.proofs.Search.{or_left, or_right}
use Rattle.octets.proofs.Sublists.{stored_behind}
use Rattle.entry.specs.declared.field.Preferred.{Preferred}
use Rattle.network.specs.Plmn.{same_plmn}
use Rattle.config.specs.Lines.{entries_from}
use Rattle.config.specs.Settings.{most_listed, plmn_in, as_listed, section}
use Rattle.parser.proofs.Collects.{all_collected, all_accepted, no_more, one_more, still_new}
use Rattle.parser.proofs.list.collect.Goals as goal

pub loop-listed-init : goal.loop-listed-init
unfolding distinct
loop-listed-init c = record { inside = c.requires.0; few = search rules; split = refl; behind = refl; differ = refl }

pub returns-then-count-has_preferred : goal.returns-then-count-has_preferred
unfolding plmn_in
returns-then-count-has_preferred c =
    let at_loop = c.loop-listed in
    let d = take at_loop.count at_loop.list in
    let size : length d ≡ at_loop.count = length-take-le at_loop.count at_loop.list (omega arith) in
    no_more _ d _ at_loop.invariant.split at_loop.invariant.differ _ _ c.in-Some.ensures.0 at_loop.count size c.has_preferred.result (sym c.has_preferred.ensures) c.if-count-has_preferred.true

pub loop-listed-preserved : goal.loop-listed-preserved
unfolding plmn_in
loop-listed-preserved c =
    let a = c.args in
    let at_loop = c.loop-listed in
    let kept = at_loop.invariant in
    let d = take at_loop.count at_loop.list in
    let x = c.in-Some.listed.value in
    let Y = section (as_listed a.kind) (entries_from a.text.now c.in-Some.listed.next) in
    let room = eqb-false at_loop.count most_listed (or_left (eqb at_loop.count most_listed) c.has_preferred.result c.if-count-has_preferred.false) in
    let longer = stored_behind at_loop.list at_loop.count x (omega arith) in
    let fresh = or_right (eqb at_loop.count most_listed) c.has_preferred.result c.if-count-has_preferred.false in
    record {
      inside = c.in-Some.ensures.3;
      few = omega arith;
      split = one_more _ d _ kept.split kept.differ x Y c.in-Some.ensures.0 ∙ ap (λ (l : List Preferred). l ++ Y) (sym longer);
      behind = kept.behind ∙ c.in-Some.ensures.1;
      differ = ap (λ (l : List Preferred). distinct same_plmn (map plmn_in l)) longer ∙ still_new _ d _ kept.split kept.differ x Y c.in-Some.ensures.0 (sym c.has_preferred.ensures ∙ fresh);
    }

pub returns : goal.returns
returns c =
    let at_loop = c.loop-listed in
    let kept = at_loop.invariant in
    let d = take at_loop.count at_loop.list in
    let size : length d ≡ at_loop.count = length-take-le at_loop.count at_loop.list (omega arith) in
    record {
      accepts = all_accepted _ d _ kept.split kept.differ c.in_default.ensures.0 (omega (arith, size, kept.few));
      list_is = all_collected _ d _ kept.split kept.differ c.in_default.ensures.0;
      rest_is = kept.behind ∙ c.in_default.ensures.1;
      count_within = omega arith;
      next_within = kept.inside;
    }
