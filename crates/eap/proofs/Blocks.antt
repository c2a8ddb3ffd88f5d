-- What the tests of octets behind their length come to.
use Prim.Native.Nat.{ℕ, ◌+◌, ◌≤◌}
use mathlib.Core.Bool.{true}
use mathlib.Core.List.{List}
use mathlib.Core.Path.{◌≡◌}
use lib.Dec.{leb}
use lib.ListN.{length}
use borrow.Author.Tests.{le-leb, leb-true}
use Rattle.octets.specs.Digits.{field}
use Rattle.octets.specs.Part.{part}
use Rattle.octets.proofs.Search.{and_right}
use Rattle.parameters.specs.Parameters.{well_formed}
use Rattle.eap.specs.Packet.{fits, is_nas, is_parameters}

module _ (l : List ℕ) (at : ℕ) where
  pub within : at + 2 ≤ length l → at + 2 + field l at 2 ≤ length l → fits l at ≡ true
  unfolding fits
  within h k = simp (le-leb (at + 2) (length l) h, le-leb (at + 2 + field l at 2) (length l) k)

  -- what fits ends within the packet
  pub fits_within : fits l at ≡ true → at + 2 + field l at 2 ≤ length l
  unfolding fits
  fits_within e = leb-true _ _ (and_right (leb (at + 2) (length l)) (leb (at + 2 + field l at 2) (length l)) e)

  pub nas_whole : fits l at ≡ true → 1 ≤ field l at 2 → field l at 2 ≤ 2048 → is_nas l at ≡ true
  unfolding is_nas
  nas_whole e h k = simp (e, le-leb 1 (field l at 2) h, le-leb (field l at 2) 2048 k)

  -- within 1,024 octets the block decides
  pub parameters_are : fits l at ≡ true → field l at 2 ≤ 1024 → is_parameters l at ≡ well_formed (part l (at + 2) (field l at 2))
  unfolding is_parameters
  parameters_are e h = simp (e, le-leb (field l at 2) 1024 h)
