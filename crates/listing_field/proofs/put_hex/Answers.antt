-- `listing_field::put_hex` meets its contract: the digits are as many as were asked for.
use native.Mathlib.Omega.{arith}
use borrow.Author.Rules.{rules}
use Rattle.text.proofs.Texts.{length_digit_text}
use Rattle.listing_field.proofs.Digits.{digits_put}
use Rattle.listing_field.proofs.put_hex.Goals as goal

pub put_digits-requires : goal.put_digits-requires
put_digits-requires c =
    let a = c.args in
    let long = length_digit_text 16 a.n a.x in
    (omega arith, omega arith, omega arith)

pub overflow_add-result : goal.overflow_add-result
overflow_add-result c =
    let a = c.args in
    let long = length_digit_text 16 a.n a.x in
    search rules

pub returns : goal.returns
returns c = digits_put 16 _ _ c.put_digits.ensures
