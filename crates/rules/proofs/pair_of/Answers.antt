-- `rules::pair_of` meets its contract: pairs are numbered from 1 on, line by line.
use native.Mathlib.Omega.{arith}
use Rattle.rules.specs.Call.{pair_of}
use Rattle.rules.proofs.pair_of.Goals as goal

pub returns : goal.returns
unfolding pair_of
returns c = omega arith
