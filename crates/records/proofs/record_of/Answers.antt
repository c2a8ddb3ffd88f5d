-- `records::record_of` meets its contract: the first record that has the pair is found, if one has it.
use mathlib.Core.Path.{◌≡◌}
use borrow.Author.Rules.{rules}
use Rattle.std.proofs.lemmas.Iterator.{first_from_Range}
use Rattle.table.specs.Table.{pair_at}
use Rattle.records.proofs.First.{first_of}
use Rattle.records.proofs.record_of.Goals as goal

pub returns : goal.returns
returns c =
    let l = c.args.table.now in
    let p = c.args.pair in
    first_of l p c.find.result
    (first_from_Range _ _ _ _ (λ k. pair_at l k ≡ p) (λ k. pair_at l k ≡ p → ⊥) c.find.ensures.ran (λ k q e. search rules) (λ k q e. search rules))
