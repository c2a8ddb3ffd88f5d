-- `text::read_digits` meets its contract. The loop's invariant: the number so far has as many digits as were read, and goes on through the
-- characters that are left to what all of them are read as.
use Rattle.std.proofs.Common.{◌≡◌, ◌^◌, ◌<◌, drop}
use Rattle.text.specs.Text.{read_digits}
use Rattle.text.proofs.Texts.{read_from}
use Rattle.text.proofs.read_digits.Given as goal

abbrev pub invariant-loop-c : goal.invariant-loop-c
invariant-loop-c l = record {
  fits : l.x < l.base ^ l.c-index;
  goes_on : read_from l.base l.x (drop l.c-index l.s) ≡ read_digits l.base l.s;
}
