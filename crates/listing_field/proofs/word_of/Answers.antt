-- `listing_field::word_of` meets its contract: each phase has its word, by its number.
use Rattle.std.proofs.Common.{ap, arith}
use Rattle.phase.specs.Stage as Stage
use Rattle.text.specs.Text.{text}
use Rattle.rules.specs.Listing.{word}
use Rattle.listing_field.proofs.Phases.{last_number, numbered, word_at}
use Rattle.listing_field.proofs.word_of.Goals as goal

pub returns-in-0 : goal.returns-in-0
unfolding text word
returns-in-0 c = word_at c.args.b.now c.requires.1 c.get.ensures.0 Stage.idle (ap numbered c.in-0.is)

pub returns-in-1 : goal.returns-in-1
unfolding text word
returns-in-1 c = word_at c.args.b.now c.requires.1 c.get.ensures.0 Stage.country (ap numbered c.in-1.is)

pub returns-in-2 : goal.returns-in-2
unfolding text word
returns-in-2 c = word_at c.args.b.now c.requires.1 c.get.ensures.0 Stage.name (ap numbered c.in-2.is)

pub returns-in-3 : goal.returns-in-3
unfolding text word
returns-in-3 c = word_at c.args.b.now c.requires.1 c.get.ensures.0 Stage.chosen (ap numbered c.in-3.is)

pub returns-in-4 : goal.returns-in-4
unfolding text word
returns-in-4 c = word_at c.args.b.now c.requires.1 c.get.ensures.0 Stage.init (ap numbered c.in-4.is)

pub returns-in-5 : goal.returns-in-5
unfolding text word
returns-in-5 c = word_at c.args.b.now c.requires.1 c.get.ensures.0 Stage.auth (ap numbered c.in-5.is)

pub returns-in-6 : goal.returns-in-6
unfolding text word
returns-in-6 c = word_at c.args.b.now c.requires.1 c.get.ensures.0 Stage.eap (ap numbered c.in-6.is)

pub returns-in-7 : goal.returns-in-7
unfolding text word
returns-in-7 c = word_at c.args.b.now c.requires.1 c.get.ensures.0 Stage.sure (ap numbered c.in-7.is)

pub returns-in_default : goal.returns-in_default
unfolding text word
returns-in_default c = word_at c.args.b.now c.requires.1 c.get.ensures.0 Stage.live (last_number _ (omega arith))
