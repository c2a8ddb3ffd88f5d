-- `octets::laws` meets its contract: each law is proved below proofs/.
use Rattle.octets.proofs.Digits.{number_digits, digits_number, digits_halves, number_halves}
use Rattle.octets.proofs.Parts.{same_equal, equal_same}
use Rattle.octets.proofs.Refusals.{refusal_lowest, refusal_none}
use Rattle.octets.proofs.Search.{all_each, each_all, least_bound, least_passes, least_first}
use Rattle.octets.proofs.laws.Goals as goal

pub returns : goal.returns
returns c = record {
  number_digits = number_digits;
  digits_number = digits_number;
  digits_halves = digits_halves;
  number_halves = number_halves;
  same_equal = same_equal;
  equal_same = equal_same;
  all_each = all_each;
  each_all = each_all;
  least_bound = least_bound;
  least_passes = least_passes;
  least_first = least_first;
  refusal_lowest = refusal_lowest 0;
  refusal_none = refusal_none;
}
