-- `sound::is_next` meets its contract: the tests on the way to each return settle the record and its pair.
use borrow.Author.Rules.{rules}
use Rattle.sound.proofs.Seen.{free_passes, high_fails, twice_fails, used_passes}
use Rattle.sound.proofs.is_next.Goals as goal

pub returns-then-pair-eq-FREE_PAIR : goal.returns-then-pair-eq-FREE_PAIR
returns-then-pair-eq-FREE_PAIR c l i is seen =
    free_passes l i _ is seen _ c.get-pair.ensures.0 c.if-pair-eq-FREE_PAIR.true _ c.zeros_at.ensures

pub returns-then-pair-gt-PAIRS : goal.returns-then-pair-gt-PAIRS
returns-then-pair-gt-PAIRS c l i is seen = high_fails l i _ is seen _ c.get-pair.ensures.0 c.if-pair-gt-PAIRS.true

pub returns-then-seen-place : goal.returns-then-seen-place
returns-then-seen-place c l i is seen =
    twice_fails l i _ is seen _ c.get-pair.ensures.0 c.if-pair-eq-FREE_PAIR.false (search rules) (search rules)

pub returns : goal.returns
returns c l i is seen =
    used_passes l i _ is seen _ c.get-pair.ensures.0 c.if-pair-eq-FREE_PAIR.false (search rules) c.if-seen-place.false _ c.is_record.ensures
