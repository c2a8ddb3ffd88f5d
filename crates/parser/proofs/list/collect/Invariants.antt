-- `parser::list::collect` meets its contract. The loop's invariant: the entries collected and those that are left make the whole, and no PLMN
-- that is collected stands twice.
use Rattle.std.proofs.Common.{◌≡◌, ◌-◌, ◌≤◌, true, ◌++◌, map, length, take}
use Rattle.octets.specs.Search.{distinct}
use Rattle.network.specs.Plmn.{same_plmn}
use Rattle.config.specs.Lines.{entries_from}
use Rattle.config.specs.Settings.{most_listed, plmn_in, as_listed, section, rest}
use Rattle.parser.proofs.list.collect.Given as goal

abbrev pub invariant-loop-listed : goal.invariant-loop-listed
invariant-loop-listed l = record {
  inside : l.at ≤ length l.text;
  few : l.count ≤ most_listed;
  split : section (as_listed l.kind) (entries_from l.text l.start) ≡ take l.count l.list ++ section (as_listed l.kind) (entries_from l.text l.at);
  behind : rest (as_listed l.kind) (entries_from l.text l.start) ≡ rest (as_listed l.kind) (entries_from l.text l.at);
  differ : distinct same_plmn (map plmn_in (take l.count l.list)) ≡ true;
}

abbrev pub decreases-loop-listed : goal.decreases-loop-listed
decreases-loop-listed l = length l.text - l.at
