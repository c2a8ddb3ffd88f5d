-- `fields::read::number_at` meets its contract: the octets up to the one that ends them are the field.
use Rattle.std.proofs.Common.{ℕ, ◌-◌, ◌+◌, ◌≡◌, take, drop, sym, ap, ◌∙◌, arith}
use Rattle.octets.specs.Part.{part}
use Rattle.text.specs.Text.{read_digits}
use Rattle.fields.proofs.Numbers.{number_read, unended, unread}
use Rattle.fields.proofs.read.number_at.Goals.{then-text-stop-via-then-text-stop, then-text-stop-via-else-text-stop+then-text-stop-2}
use Rattle.fields.proofs.read.number_at.Goals as goal

pub returns-then-text-stop : goal.returns-then-text-stop
returns-then-text-stop c =
    let a = c.args in
    elim c.then-text-stop.branch [
      | then-text-stop-via-then-text-stop w ↦ unended a.text.now a.at a.width a.base a.end c.requires.0 (λ h e. omega (arith, w.if-text-stop.true))
      | then-text-stop-via-else-text-stop+then-text-stop-2 w ↦ unended a.text.now a.at a.width a.base a.end c.requires.0 (λ h e. w.if-text-stop-2.true e)
    ]

pub returns-in_err-value : goal.returns-in_err-value
unfolding part
returns-in_err-value c =
    let a = c.args in
    let size : a.at + a.width - a.at ≡ a.width = omega arith in
    rw c.from_residual.ensures
    (unread a.text.now a.at a.width a.base a.end c.requires.0 (ap (λ (k : ℕ). read_digits a.base (take k (drop a.at a.text.now))) (sym size) ∙ sym c.read_digits.ensures ∙ c.in_err-value.was))

pub returns : goal.returns
unfolding part
returns c =
    let a = c.args in
    let size : a.at + a.width - a.at ≡ a.width = omega arith in
    number_read a.text.now a.at a.width a.base a.end c.requires.0 c.if-text-stop.false c.if-text-stop-2.false c.in_ok-value.value
    (ap (λ (k : ℕ). read_digits a.base (take k (drop a.at a.text.now))) (sym size) ∙ sym c.read_digits.ensures ∙ c.in_ok-value.was)
