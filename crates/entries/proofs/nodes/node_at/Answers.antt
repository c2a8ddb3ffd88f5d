-- `entries::nodes::node_at` meets its contract: the words pick the reader of what follows them.
use Rattle.std.proofs.Common.{subst}
use Rattle.entries.specs.Branch.{BeginsIs}
use Rattle.entries.proofs.Noding.{four_noded, name_noded, name_words, no_words, six_noded, words}
use Rattle.entries.proofs.nodes.node_at.Goals as goal

pub returns-then-begins : goal.returns-then-begins
returns-then-begins c =
    let a = c.args in
    name_noded a.text.now a.at (subst (BeginsIs a.text.now a.at name_words) c.if-begins.true c.begins.ensures) _ c.name_at.ensures

pub returns-then-begins-2 : goal.returns-then-begins-2
returns-then-begins-2 c =
    let a = c.args in
    four_noded a.text.now a.at (subst (BeginsIs a.text.now a.at (words 52)) c.if-begins-2.true c.begins-2.ensures) _ c.version_4_at.ensures

pub returns-then-begins-3 : goal.returns-then-begins-3
returns-then-begins-3 c =
    let a = c.args in
    six_noded a.text.now a.at (subst (BeginsIs a.text.now a.at (words 54)) c.if-begins-3.true c.begins-3.ensures) _ c.version_6_at.ensures

pub returns : goal.returns
returns c =
    let a = c.args in
    no_words a.text.now a.at (subst (BeginsIs a.text.now a.at name_words) c.if-begins.false c.begins.ensures)
    (subst (BeginsIs a.text.now a.at (words 52)) c.if-begins-2.false c.begins-2.ensures)
    (subst (BeginsIs a.text.now a.at (words 54)) c.if-begins-3.false c.begins-3.ensures)
