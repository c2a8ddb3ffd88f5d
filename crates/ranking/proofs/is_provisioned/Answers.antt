-- `ranking::is_provisioned` meets its contract: a `node` record, or a list of `plmn` records that is not empty.
use mathlib.Core.Bool.{true, not}
use mathlib.Core.List.{List, [], ◌∷◌}
use mathlib.Core.Path.{◌≡◌, refl, sym, ap, ◌∙◌}
use lib.ListN.{length}
use borrow.Author.Rules.{rules}
use Rattle.std.specs.Prelude.{◌==◌, is_some}
use Rattle.entry.specs.declared.field.Preferred.{Preferred}
use Rattle.config.specs.Settings.{settings_of}
use Rattle.preference.specs.Preference.{has_plmns, provisioned}
use Rattle.ranking.proofs.is_provisioned.Goals as goal

-- a list has records where it is not empty
some_plmns : (l : List Preferred) → not (length l == 0) ≡ has_plmns l
unfolding has_plmns
some_plmns [] = refl
some_plmns (x ∷ l) = search rules

pub returns-then-is_some : goal.returns-then-is_some
unfolding provisioned settings_of
returns-then-is_some c =
    let one : is_some c.args.configuration.node ≡ true = sym c.is_some.ensures ∙ c.if-is_some.true in
    c.if-is_some.true ∙ sym (rw one)

pub returns-else-is_some : goal.returns-else-is_some
unfolding provisioned settings_of
returns-else-is_some c =
    rw (sym c.is_some.ensures ∙ c.if-is_some.false) (ap not c.is_empty.ensures ∙ some_plmns _)
