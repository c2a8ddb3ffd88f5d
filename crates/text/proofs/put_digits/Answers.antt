-- `text::put_digits` meets its contract. The loop goes from the last character to the first; its invariant: the characters that are
-- left, stored before what is stored already, make the whole.
use Rattle.std.proofs.Common.{◌≡◌, ℕ, ◌+◌, ◌-◌, ◌/◌, ◌%◌, ◌<◌, List, [], ◌∷◌, map, set, sym, ap, ◌∙◌, arith}
use Rattle.std.proofs.lemmas.List.Edits.{sets}
use mathlib.Core.List.{map-append}
use Rattle.octets.specs.Digits.{digits}
use Rattle.octets.proofs.Digits.{digits_last}
use Rattle.octets.proofs.Parts.{sets_last}
use Rattle.text.specs.Text.{character, digit_text}
use Rattle.text.proofs.Texts.{length_digit_text}
use Rattle.text.proofs.put_digits.Goals as goal

-- the character that a turn stores is the last of those that were left
turn : (l : List ℕ) (at i b x : ℕ) → 0 < i → sets (set l (at + (i - 1)) (character (x % b))) at (digit_text b (i - 1) (x / b)) ≡ sets l at (digit_text b i x)
unfolding digit_text
turn l at i b x h =
    sets_last l at (map character (digits b (i - 1) (x / b))) (at + (i - 1)) (character (x % b)) (ap (λ (k : ℕ). at + k) (length_digit_text b (i - 1) (x / b)))
    ∙ ap (sets l at) (sym (ap (map character) (digits_last b i x h) ∙ map-append character (digits b (i - 1) (x / b)) (x % b ∷ [])))

pub loop-i-preserved : goal.loop-i-preserved
loop-i-preserved c =
    rw c.character.ensures (turn c.loop-i.s c.args.at c.loop-i.i c.args.b c.loop-i.rest c.loop-i-test.true ∙ c.loop-i.invariant)

pub returns : goal.returns
unfolding digit_text digits
returns c =
    let none : c.loop-i.i ≡ 0 = omega arith in
    record { wrote = rw none at c.loop-i.invariant }
