-- `record_writer::put_fresh` meets its contract: behind the pair there are zeros alone.
use Prim.Native.Nat.{ℕ}
use mathlib.Core.List.{[]}
use mathlib.Core.Path.{◌≡◌, refl, ap, ◌∙◌}
use native.Mathlib.Omega.{arith}
use Rattle.octets.specs.Digits.{be, digits}
use Rattle.octets.specs.Part.{padded, zeros}
use Rattle.octets.specs.Row.{joined}
use Rattle.octets.proofs.Parts.{padded_wrote}
use Rattle.children.specs.Children.{children_octets}
use Rattle.holds.specs.Holds.{holds_octets}
use Rattle.phase.specs.Phase.{phase_octets}
use Rattle.phase.specs.declared.Phase.TheVariants.{Idle}
use Rattle.record.specs.Changes.{unheld}
use Rattle.record.specs.Octets.{record_length, record_octets}
use Rattle.record.proofs.Writing.{over}
use Rattle.record_writer.proofs.put_fresh.Goals as goal

-- the octets of a line that was just opened
fresh-octets : (pair : ℕ) → padded record_length (be 1 pair) ≡ record_octets pair (unheld Idle [])
unfolding padded be digits record_octets unheld phase_octets holds_octets children_octets joined zeros
fresh-octets pair = refl

pub returns : goal.returns
unfolding be digits
returns c =
    padded_wrote record_length (be 1 c.args.pair) _ (omega arith) (over (c.zero.ensures ∙ ap zeros c.requires) c.put.ensures) ∙ fresh-octets c.args.pair
