-- `buffer::slice::zeros_at` meets its contract. The loop's invariant: the bits are none exactly where the words passed and the last one are zeros.
use Rattle.std.proofs.Common.{◌≡◌, ℕ, ◌+◌, ◌-◌, ◌*◌, ◌≤◌, Bool, ◌&&◌, List, eqb, length, sym, ap, ap₂, ◌∙◌, arith}
use mathlib.Core.Bool.{and_assoc, and_comm}
use lib.Bits.{bit_or}
use Rattle.octets.specs.Digits.{low}
use Rattle.octets.specs.Part.{part, same, zeros, zeros_at}
use Rattle.buffer.proofs.Ors.{or_none}
use Rattle.buffer.proofs.Words.{word_none}
use Rattle.buffer.proofs.Zeros.{zeros_join, zeros_overlap}
use Rattle.buffer.proofs.slice.zeros_at.Goals as goal

-- a word is zero exactly where its octets are
none : (l : List ℕ) (at : ℕ) → at + 8 ≤ length l → {w : ℕ} → w ≡ low (part l at 8) → eqb w 0 ≡ zeros_at l at 8
none l at h e = ap (λ (x : ℕ). eqb x 0) e ∙ word_none l at h

-- one word more
turn : (l : List ℕ) (at i b w : ℕ) (last : Bool) → at + 8 * i ≤ length l → eqb b 0 ≡ zeros_at l at (8 * i) && last → eqb w 0 ≡ zeros_at l (at + 8 * i) 8
    → eqb (bit_or b w) 0 ≡ zeros_at l at (8 * (i + 1)) && last
turn l at i b w last within e f =
    let more : 8 * (i + 1) ≡ 8 * i + 8 = omega arith in
    or_none b w ∙ ap₂ (λ (s t : Bool). s && t) e f ∙ swap (zeros_at l at (8 * i)) last (zeros_at l (at + 8 * i) 8)
    ∙ ap (λ (t : Bool). t && last) (sym (ap (zeros_at l at) more ∙ zeros_join l at (8 * i) 8 within))
  where
    swap : (s t u : Bool) → (s && t) && u ≡ (s && u) && t
    swap s t u = and_assoc s t u ∙ ap (λ (v : Bool). s && v) (and_comm t u) ∙ sym (and_assoc s u t)

-- the words reach the last one
ended : (l : List ℕ) (at n i : ℕ) → 8 ≤ n → n ≤ 8 * i + 8 → 8 * i ≤ n → at + n ≤ length l → zeros_at l at (8 * i) && zeros_at l (at + n - 8) 8 ≡ zeros_at l at n
ended l at n i some reach within lent =
    let first : at + 8 * i - at ≡ 8 * i = omega arith in
    let last : at + n - (at + n - 8) ≡ 8 = omega arith in
    let whole : at + n - at ≡ n = omega arith in
    rw (first, last, whole) at (zeros_overlap l at (at + n - 8) (at + 8 * i) (at + n) (omega arith) (omega arith) (omega arith) (omega arith))

pub loop-i-init : goal.loop-i-init
unfolding zeros_at part zeros same
loop-i-init c = none c.args.s.now (c.args.at + c.args.n - 8) (omega arith) c.word-bits.ensures.0

pub loop-i-preserved : goal.loop-i-preserved
loop-i-preserved c =
    let s = c.args.s.now in
    let at = c.args.at in
    let i = c.loop-i.i in
    turn s at i c.loop-i.bits c.word-bits-in-loop-i.result (zeros_at s (at + c.args.n - 8) 8) (omega arith) c.loop-i.invariant
    (none s (at + 8 * i) (omega arith) c.word-bits-in-loop-i.ensures.0)

pub returns : goal.returns
returns c =
    c.loop-i.invariant ∙ ended c.args.s.now c.args.at c.args.n c.loop-i.i c.if-n-lt8.false (omega arith) (omega arith) c.requires
