-- `addresses::key_at` meets its contract: the two words are the halves of the number that is folded.
use Rattle.addresses.proofs.Keys.{key_words}
use Rattle.addresses.proofs.key_at.Goals as goal

pub returns : goal.returns
returns c = key_words _ _ c.requires _ _ c.word.ensures c.word-2.ensures
