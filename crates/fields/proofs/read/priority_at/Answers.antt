-- `fields::read::priority_at` meets its contract: one to three digits are tried, and the number must be as long as they are.
use Rattle.std.proofs.Common.{ℕ, ◌&&◌, leb, eqb, sym, ap, ◌∙◌, arith}
use Rattle.fields.proofs.Priorities.{no_number, no_priority, none_left, priority_read, some_digit}
use Rattle.fields.proofs.read.priority_at.Goals.{in-Some+else-read-decimal_width, in_default}
use Rattle.fields.proofs.read.priority_at.Goals as goal

pub loop-width-init : goal.loop-width-init
loop-width-init c = λ f m x e says. some_digit f x says

pub returns-then-read-decimal_width : goal.returns-then-read-decimal_width
returns-then-read-decimal_width c =
    let a = c.args in
    let n = c.loop-width.width in
    let r = c.in-Some.read in
    priority_read a.text.now a.at n c.loop-width.invariant r c.in-Some.ensures
    (ap (λ (k : ℕ). leb r.value 255 && eqb k n) (sym c.decimal_width.ensures.0) ∙ c.if-read-decimal_width.true)

pub loop-width-preserved : goal.loop-width-preserved
loop-width-preserved c =
    let a = c.args in
    let n = c.loop-width.width in
    elim c.match-number_at.branch [
      | in-Some+else-read-decimal_width w ↦
          let r = w.in-Some.read in
          no_priority a.text.now a.at n c.loop-width.invariant r w.in-Some.ensures c.requires
          (ap (λ (k : ℕ). leb r.value 255 && eqb k n) (sym w.decimal_width.ensures.0) ∙ w.if-read-decimal_width.false)
      | in_default w ↦ no_number a.text.now a.at n c.loop-width.invariant w.in_default.ensures
    ]

pub returns : goal.returns
returns c =
    let a = c.args in
    none_left a.text.now a.at (λ f m x e says. omega (arith, c.loop-width.invariant f m x e says, c.loop-width-test.false))
