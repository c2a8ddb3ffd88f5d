-- `buffer::number::put` meets its contract. The loop goes from the last octet to the first; its invariant: the octets that are left, stored
-- before what is stored already, make the whole.
use Rattle.std.proofs.Common.{◌≡◌, ℕ, ◌+◌, ◌-◌, ◌/◌, ◌%◌, ◌<◌, List, set, sym, ap, ◌∙◌, arith}
use Rattle.std.proofs.lemmas.List.Edits.{sets}
use Rattle.octets.specs.Digits.{be, digits}
use Rattle.octets.proofs.Digits.{digits_last, length_digits}
use Rattle.octets.proofs.Parts.{sets_last}
use Rattle.buffer.proofs.number.put.Goals as goal

-- the octet that a turn stores is the last of those that were left
turn : (l : List ℕ) (at i x : ℕ) → 0 < i → sets (set l (at + (i - 1)) (x % 256)) at (be (i - 1) (x / 256)) ≡ sets l at (be i x)
unfolding be
turn l at i x h =
    sets_last l at (digits 256 (i - 1) (x / 256)) (at + (i - 1)) (x % 256) (ap (λ (k : ℕ). at + k) (length_digits 256 (i - 1) (x / 256)))
    ∙ ap (sets l at) (sym (digits_last 256 i x h))

pub loop-i-preserved : goal.loop-i-preserved
loop-i-preserved c = turn c.loop-i.s c.args.at c.loop-i.i c.loop-i.rest c.loop-i-test.true ∙ c.loop-i.invariant

pub returns : goal.returns
unfolding be digits
returns c =
    let none : c.loop-i.i ≡ 0 = omega arith in
    record { wrote = rw none at c.loop-i.invariant }
