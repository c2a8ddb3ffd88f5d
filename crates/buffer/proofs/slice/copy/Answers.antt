-- `buffer::slice::copy` meets its contract. The loop's invariant: the octets passed are stored one after another.
use Prim.Native.Nat.{ℕ, ◌+◌, ◌<◌}
use mathlib.Core.List.{List, [], ◌∷◌}
use mathlib.Core.Path.{◌≡◌, refl, sym, ap, ◌∙◌}
use native.Mathlib.Nat.{le_of_lt}
use native.Mathlib.Numerals.{add-one}
use lib.ListN.{length, get_or, set, take}
use lib.Seq.{sets, take-suc, take_all, length-take-le}
use Rattle.octets.proofs.Parts.{sets_append}
use Rattle.buffer.proofs.slice.copy.Goals as goal

-- the octet that a turn stores follows those stored before it
turn : (d d₀ s : List ℕ) (at i : ℕ) → i < length s → d ≡ sets d₀ at (take i s) → set d (at + i) (get_or s i 0) ≡ sets d₀ at (take (i + 1) s)
turn d d₀ s at i h e =
    ap (λ (l : List ℕ). set l (at + i) (get_or s i 0)) e
    ∙ ap (λ (k : ℕ). set (sets d₀ at (take i s)) (at + k) (get_or s i 0)) (sym (length-take-le i s (le_of_lt h)))
    ∙ sym (sets_append d₀ at (take i s) (get_or s i 0 ∷ []))
    ∙ ap (sets d₀ at) (sym (ap (λ (k : ℕ). take k s) (add-one i) ∙ take-suc s i 0 h))

pub loop-i-init : goal.loop-i-init
loop-i-init c = refl

pub loop-i-preserved : goal.loop-i-preserved
loop-i-preserved c = turn _ _ c.args.src.now c.args.at c.loop-i.i c.loop-i-test.true c.loop-i.invariant

pub returns : goal.returns
returns c = record { wrote = c.loop-i.invariant ∙ ap (sets c.args.dst.now c.args.at) (take_all c.loop-i.i c.args.src.now c.loop-i-test.false) }
