-- `sound::are_apart` meets its contract: by the keys where all of them differ, else address by address.
use mathlib.Core.Path.{sym, ap, ap₂, ◌∙◌}
use borrow.Author.Rules.{rules}
use Rattle.differ.proofs.Apart.{each_differs}
use Rattle.address.specs.Address.{held_addresses}
use Rattle.holds.specs.Holds.{different}
use Rattle.phase.specs.Chosen.{chosen}
use Rattle.record.specs.Sound.{chosen_free}
use Rattle.sound.proofs.Held.{by_chosen, held_twice, none_held, told_apart}
use Rattle.sound.proofs.are_apart.Goals as goal

pub returns-then-m-eq0 : goal.returns-then-m-eq0
returns-then-m-eq0 c = none_held _ _ c.if-m-eq0.true

pub keys-requires : goal.keys-requires
keys-requires c = (search rules, c.requires.1.few)

pub returns-then-all_differ : goal.returns-then-all_differ
returns-then-all_differ c =
    let keys = c.keys in
    told_apart _ _ c.requires.0 c.requires.1 _ keys.result keys.ensures (each_differs _ (sym c.all_differ.ensures ∙ c.if-all_differ.true)) c.chosen_key.ensures

pub read_holds-holds-requires : goal.read_holds-holds-requires
read_holds-holds-requires c = (search rules, c.requires.1.few)

pub returns-then-are_different : goal.returns-then-are_different
returns-then-are_different c =
    let holds = c.read_holds-holds.ensures in
    c.is_free.ensures ∙ ap₂ (λ p hs. chosen_free (chosen p) (held_addresses hs)) c.read_phase.ensures (c.as_slice-then-are_different.ensures ∙ holds)
    ∙ by_chosen _ _ (sym (c.are_different.ensures ∙ ap (λ hs. different (held_addresses hs)) (c.as_slice.ensures ∙ holds)) ∙ c.if-are_different.true)

pub returns-else-are_different : goal.returns-else-are_different
returns-else-are_different c =
    c.if-are_different.false
    ∙ held_twice _ _ (sym (c.are_different.ensures ∙ ap (λ hs. different (held_addresses hs)) (c.as_slice.ensures ∙ c.read_holds-holds.ensures)) ∙ c.if-are_different.false)
