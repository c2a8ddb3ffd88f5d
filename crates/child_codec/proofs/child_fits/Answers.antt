-- `child_codec::child_fits` meets its contract: three tests at once.
use mathlib.Core.Path.{refl}
use Rattle.children.specs.Children.{child_fits}
use Rattle.child_codec.proofs.child_fits.Goals as goal

pub returns : goal.returns
unfolding child_fits
returns c = refl
