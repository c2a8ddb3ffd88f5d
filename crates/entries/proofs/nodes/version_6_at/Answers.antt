-- `entries::nodes::version_6_at` meets its contract: two halves of 16 digits and a newline are the address.
use Rattle.std.proofs.Common.{◌≡◌, ℕ, ◌+◌, ◌-◌, take, drop, sym, ap, ◌∙◌, arith}
use Rattle.octets.specs.Part.{part}
use Rattle.text.specs.Text.{read_digits}
use Rattle.entries.proofs.Halves.{both_read, no_high, no_low, no_room}
use Rattle.entries.proofs.nodes.version_6_at.Goals as goal

pub returns-then-text-middle : goal.returns-then-text-middle
returns-then-text-middle c = no_room c.args.text.now c.args.start c.requires c.if-text-middle.true

pub returns-in_err-high : goal.returns-in_err-high
unfolding part
returns-in_err-high c =
    let a = c.args in
    let size : a.start + 16 - a.start ≡ 16 = omega arith in
    rw c.from_residual.ensures
    (no_high a.text.now a.start c.requires (ap (λ (k : ℕ). read_digits 16 (take k (drop a.start a.text.now))) (sym size) ∙ sym c.read_digits.ensures ∙ c.in_err-high.was))

pub returns-in_err-low : goal.returns-in_err-low
returns-in_err-low c =
    let a = c.args in
    rw c.from_residual-in_err-low.ensures
    (no_low a.text.now a.start c.requires c.in_err-low.ensures)

pub returns : goal.returns
unfolding part
returns c =
    let a = c.args in
    let size : a.start + 16 - a.start ≡ 16 = omega arith in
    both_read a.text.now a.start c.requires c.if-text-middle.false c.in_ok-high.high
    (ap (λ (k : ℕ). read_digits 16 (take k (drop a.start a.text.now))) (sym size) ∙ sym c.read_digits.ensures ∙ c.in_ok-high.was)
    c.in_ok-low.low c.in_ok-low.ensures
