-- `buffer::number::by_octets` meets its contract. The loop's invariant: the number so far has as many digits as octets were read, and goes on
-- through the octets that are left to the number that all of them say.
use Rattle.std.proofs.Common.{◌≡◌, ◌^◌, ◌<◌, drop}
use Rattle.octets.specs.Digits.{number, number_from}
use Rattle.buffer.proofs.number.by_octets.Given as goal

abbrev pub invariant-loop-octet : goal.invariant-loop-octet
invariant-loop-octet l = record {
  fits : l.x < 256 ^ l.octet-index;
  goes_on : number_from 256 l.x (drop l.octet-index l.octet-items) ≡ number 256 l.octet-items;
}
