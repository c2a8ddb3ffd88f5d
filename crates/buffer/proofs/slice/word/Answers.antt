-- `buffer::slice::word` meets its contract: the sum is the number that the octets say, the first of them lowest.
use Rattle.buffer.proofs.Words.{word_below, word_octets}
use Rattle.buffer.proofs.slice.word.Goals as goal

pub returns : goal.returns
returns c =
    let said = word_octets c.args.s.now c.args.at c.requires in
    (cc, word_below c.args.s.now c.args.at c.requires c.wide.ensures c.wide-2.ensures c.wide-3.ensures c.wide-4.ensures c.wide-5.ensures c.wide-6.ensures c.wide-7.ensures c.wide-8.ensures)
