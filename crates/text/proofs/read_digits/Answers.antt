-- `text::read_digits` meets its contract. The loop's invariant: the number so far has as many digits as were read, and goes on through the
-- characters that are left to what all of them are read as.
use Rattle.std.proofs.Common.{ℕ, ◌+◌, ◌*◌, ◌^◌, ◌≤◌, ◌<◌, sym, ◌∙◌, arith}
use native.Mathlib.Nat.{lt_of_lt_of_le, pow-le-pow_left, pow-zero}
use lib.Dec.{lit<}
use Rattle.octets.proofs.Digits.{digit_fits, digit_more}
use Rattle.text.proofs.Texts.{read_end, read_next, read_start, read_stop}
use Rattle.text.proofs.read_digits.Goals as goal

-- sixteen digits of base 16 at the most fit 64 bits
room : (b i x d : ℕ) → b ≤ 16 → i < 16 → x < b ^ i → d < b → x * b + d < 2 ^ 64
room b i x d h k l m = lt_of_lt_of_le (digit_fits b 16 i x d l m k) (pow-le-pow_left h 16)

pub loop-c-init : goal.loop-c-init
loop-c-init c = record { fits = rw pow-zero (lit< tt); goes_on = read_start c.args.base c.args.s.now }

pub returns-then-base-d : goal.returns-then-base-d
returns-then-base-d c =
    sym (read_stop c.args.base c.loop-c.x c.args.s.now c.loop-c.c-index c.loop-c-test.true (rw (← c.digit-d.ensures) c.if-base-d.true)) ∙ c.loop-c.invariant.goes_on

pub overflow_mul-x : goal.overflow_mul-x
overflow_mul-x c =
    let fits = room c.args.base c.loop-c.c-index c.loop-c.x c.digit-d.result c.requires.1 (omega arith) c.loop-c.invariant.fits c.if-base-d.false in
    omega arith

pub overflow_add-x : goal.overflow_add-x
overflow_add-x c =
    record { fits = room c.args.base c.loop-c.c-index c.loop-c.x c.digit-d.result c.requires.1 (omega arith) c.loop-c.invariant.fits c.if-base-d.false }

pub loop-c-preserved : goal.loop-c-preserved
loop-c-preserved c = record {
  fits = digit_more c.args.base c.loop-c.c-index c.loop-c.x c.digit-d.result c.loop-c.invariant.fits c.if-base-d.false;
  goes_on =
      rw c.digit-d.ensures
      (read_next c.args.base c.loop-c.x c.args.s.now c.loop-c.c-index c.loop-c-test.true (rw (← c.digit-d.ensures) c.if-base-d.false) ∙ c.loop-c.invariant.goes_on);
}

pub returns : goal.returns
returns c = sym (read_end c.args.base c.loop-c.x c.args.s.now c.loop-c.c-index c.loop-c-test.false) ∙ c.loop-c.invariant.goes_on
