-- `frame::checked` meets its contract: the tests stand in the order of their numbers.
use mathlib.Core.Path.{◌∙◌}
use Rattle.octets.specs.Refusal.{refusal}
use Rattle.frame.specs.Entering.{first_refusals}
use Rattle.frame.proofs.Entries.{above_last}
use Rattle.frame.proofs.checked.Goals as goal

pub returns-then-not-is_sound : goal.returns-then-not-is_sound
unfolding refusal first_refusals
returns-then-not-is_sound c = rw (← c.is_sound.ensures, c.if-not-is_sound.true)

pub returns-then-tenant-line : goal.returns-then-tenant-line
unfolding refusal first_refusals
returns-then-tenant-line c =
    let a = c.args in
    rw (← c.is_sound.ensures, c.if-not-is_sound.false, above_last a.tenant a.line ∙ c.if-tenant-line.true)

pub returns-then-short : goal.returns-then-short
unfolding refusal first_refusals
returns-then-short c =
    let a = c.args in
    rw (← c.is_sound.ensures, c.if-not-is_sound.false, above_last a.tenant a.line ∙ c.if-tenant-line.false, c.if-short.true)

pub returns : goal.returns
unfolding refusal first_refusals
returns c =
    let a = c.args in
    rw (← c.is_sound.ensures, c.if-not-is_sound.false, above_last a.tenant a.line ∙ c.if-tenant-line.false, c.if-short.false)
