-- `buffer::slice::zeros_by_octets` meets its contract. The loop's invariant: the bits so far and the octets that are left decide.
use Rattle.std.proofs.Common.{◌≡◌, ℕ, ◌-◌, Bool, ◌&&◌, List, eqb, get_or, length, sym, ap, ap₂, ◌∙◌, arith}
use mathlib.Core.Bool.{and_assoc}
use lib.Bits.{bit_or}
use Rattle.octets.specs.Part.{same, zeros, zeros_at}
use Rattle.octets.proofs.Search.{and_last}
use Rattle.buffer.proofs.Ors.{or_none}
use Rattle.buffer.proofs.Zeros.{none_left, one_left}
use Rattle.buffer.proofs.slice.zeros_by_octets.Goals as goal

-- one octet more
taken : (b x : ℕ) (rest : Bool) → eqb b 0 && (eqb x 0 && rest) ≡ eqb (bit_or b x) 0 && rest
taken b x rest = sym (and_assoc (eqb b 0) (eqb x 0) rest) ∙ ap (λ (t : Bool). t && rest) (sym (or_none b x))

pub loop-octet-init : goal.loop-octet-init
loop-octet-init c =
    let octets = c.part-octet-items.result.now in
    let all : length octets ≡ length octets - 0 = omega arith in
    ap (λ (n : ℕ). same octets (zeros n)) all

pub loop-octet-preserved : goal.loop-octet-preserved
loop-octet-preserved c =
    let octets = c.part-octet-items.result.now in
    let bits = c.loop-octet.bits in
    c.loop-octet.invariant
    ∙ ap (λ (t : Bool). eqb bits 0 && t) (one_left octets c.loop-octet.octet-index c.loop-octet-test.true)
    ∙ taken bits (get_or octets c.loop-octet.octet-index 0) _

pub returns : goal.returns
unfolding zeros_at
returns c =
    let octets = c.part-octet-items in
    sym
    (ap₂ (λ (l : List ℕ) (n : ℕ). same l (zeros n)) (sym octets.ensures.0) (sym octets.ensures.1)
    ∙ c.loop-octet.invariant
    ∙ ap (λ (t : Bool). eqb c.loop-octet.bits 0 && t) (none_left octets.result.now c.loop-octet.octet-index c.loop-octet-test.false)
    ∙ and_last (eqb c.loop-octet.bits 0))
