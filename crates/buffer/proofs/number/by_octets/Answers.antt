-- `buffer::number::by_octets` meets its contract. The loop's invariant: the number so far has as many digits as octets were read, and goes on
-- through the octets that are left to the number that all of them say.
use Rattle.std.proofs.Common.{◌≡◌, refl, sym, ap, ◌∙◌, arith}
use lib.Dec.{lit<}
use Rattle.octets.specs.Digits.{field, number}
use Rattle.octets.proofs.Digits.{digit_fits, digit_more, number_end, number_step}
use Rattle.buffer.proofs.number.by_octets.Goals as goal

pub loop-octet-init : goal.loop-octet-init
unfolding number
loop-octet-init c = record { fits = lit< tt; goes_on = refl }

pub overflow_mul-x : goal.overflow_mul-x
overflow_mul-x c =
    let fits = digit_fits 256 8 _ _ 0 c.loop-octet.invariant.fits (lit< tt) (omega arith) in
    omega arith

pub overflow_add-x : goal.overflow_add-x
overflow_add-x c = record { fits = digit_fits 256 8 _ _ _ c.loop-octet.invariant.fits c.wide.ensures.1 (omega arith) }

pub loop-octet-preserved : goal.loop-octet-preserved
loop-octet-preserved c = record {
  fits = digit_more 256 _ _ _ c.loop-octet.invariant.fits c.wide.ensures.1;
  goes_on =
      rw c.wide.ensures.0
      (sym (number_step 256 c.loop-octet.x c.part-octet-items.result.now c.loop-octet.octet-index c.loop-octet-test.true) ∙ c.loop-octet.invariant.goes_on);
}

pub returns : goal.returns
unfolding field
returns c =
    let part = c.part-octet-items in
    let all : c.loop-octet.octet-index ≡ c.args.n = omega arith in (
      sym (number_end 256 c.loop-octet.x part.result.now c.loop-octet.octet-index c.loop-octet-test.false) ∙ c.loop-octet.invariant.goes_on ∙ ap (number 256) part.ensures.0,
      rw all at c.loop-octet.invariant.fits,
    )
