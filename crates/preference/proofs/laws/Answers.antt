-- `preference::laws` meets its contract: each law is proved below proofs/.
use Rattle.preference.proofs.Bests.{offered_only, offered_always, ranked_exactly, ranked_none, unranked_exactly, unranked_none}
use Rattle.preference.proofs.laws.Goals as goal

pub returns : goal.returns
returns c = record {
  offered_only = offered_only;
  offered_always = offered_always;
  ranked_exactly = ranked_exactly;
  ranked_none = ranked_none;
  unranked_exactly = unranked_exactly;
  unranked_none = unranked_none;
}
