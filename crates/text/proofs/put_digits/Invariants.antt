-- `text::put_digits` meets its contract. The loop goes from the last character to the first; its invariant: the characters that are
-- left, stored before what is stored already, make the whole.
use Rattle.std.proofs.Common.{◌≡◌}
use Rattle.std.proofs.lemmas.List.Edits.{sets}
use Rattle.text.specs.Text.{digit_text}
use Rattle.text.proofs.put_digits.Given as goal

abbrev pub invariant-loop-i : goal.invariant-loop-i
invariant-loop-i l = sets l.s l.at (digit_text l.b l.i l.rest) ≡ sets l.initial.s l.at (digit_text l.b l.n l.x)
