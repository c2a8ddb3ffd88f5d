-- `phase_codec::is_phase` meets its contract: place facts abroad are tested in another order than the definition has.
use Rattle.std.proofs.Common.{arith}
use Rattle.std.proofs.lemmas.Bool.Decides.{nat_tests}
use Rattle.phase.specs.Branch.{is_asking, is_country}
use Rattle.phase.specs.Facts.{facts_from}
use Rattle.phase.specs.Phase.{is_phase, phase_fits, phase_from, phase_written}
use Rattle.phase_codec.proofs.is_phase.Goals as goal

pub returns-in-1 : goal.returns-in-1
unfolding is_phase phase_written phase_fits phase_from is_country is_asking facts_from
returns-in-1 c = grind (arith, nat_tests)
