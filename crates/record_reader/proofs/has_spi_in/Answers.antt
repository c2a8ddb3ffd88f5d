-- `record_reader::has_spi_in` meets its contract: the SPI is looked for among as many children as the count says.
use Prim.Native.Nat.{ℕ}
use mathlib.Core.Path.{ap, ◌∙◌}
use Rattle.children.specs.Children.{children_from, has_spi}
use Rattle.record.specs.Octets.{children_place, line_from}
use Rattle.record_reader.proofs.has_spi_in.Goals as goal

pub returns : goal.returns
unfolding line_from
returns c =
    let a = c.args in
    c.has_spi_at.ensures ∙ ap (λ (n : ℕ). has_spi a.spi (children_from a.b.now children_place n)) c.get.ensures.0
