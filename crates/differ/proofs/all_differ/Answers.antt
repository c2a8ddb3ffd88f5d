-- `differ::all_differ` meets its contract.
use Rattle.differ.proofs.Apart.{four_tests}
use Rattle.differ.proofs.all_differ.Goals as goal

pub returns : goal.returns
returns c = search four_tests
