-- `settling::answer::chose` meets its contract: both versions are one number, in two halves.
use borrow.Author.Rules.{rules}
use Rattle.address.specs.Address.{version_of}
use Rattle.rules.specs.Answer.{numbers_of, twelve}
use Rattle.settling.proofs.Halves.{high_4, high_6, low_4, low_6}
use Rattle.settling.proofs.answer.chose.Goals as goal

pub returns-in-V4 : goal.returns-in-V4
unfolding numbers_of twelve version_of
returns-in-V4 c =
    let x = c.in-V4.x in
    rw (c.in-V4.is, high_4 x (search rules), low_4 x (search rules))

pub returns-in-V6 : goal.returns-in-V6
unfolding numbers_of twelve version_of
returns-in-V6 c =
    let low = c.in-V6.low in
    let high = c.in-V6.high in
    rw (c.in-V6.is, high_6 low (search rules) high, low_6 low (search rules) high)
