-- How long a hold lasts, by one test of every octet.
use Prim.Native.Nat.{ℕ, ◌*◌, ◌/◌, ◌%◌, ◌≤◌, ◌<◌}
use mathlib.Core.Bool.{Bool, true, ◌&&◌}
use mathlib.Core.Path.{◌≡◌, refl, sym, ap, ◌∙◌}
use native.Mathlib.Omega.{arith}
use lib.Dec.{leb, ltb}
use mir.Facts.{Fits-below}
use mir.Syntax.{w64}
use mir.Val.{Fits}
use borrow.Author.Tests.{leb-true, ltb-true, ne_eqb}
use Rattle.octets.specs.Search.{all}
use Rattle.octets.proofs.Search.{all_each, and_left, and_right}
use Rattle.timer.specs.Timer.{timer_of, unit_seconds}
use Rattle.timer.specs.declared.Timer.{Timer}
use Rattle.timer.specs.declared.Timer.TheVariants.{None, Seconds, Deactivated}

-- a timer of 1 second to 31 times 320 hours, without end, or none
timer_fits : Timer → Bool
timer_fits None = true
timer_fits (Seconds n) = ltb 0 n && leb n 35_712_000
timer_fits Deactivated = true

octet_fits : ℕ → Bool
octet_fits octet = timer_fits (timer_of octet)

-- the seconds that an octet says
pub seconds_fit : (octet n : ℕ) → octet ≤ 255 → timer_of octet ≡ Seconds n → (0 < n) × (n ≤ 35_712_000)
unfolding octet_fits timer_fits timer_of unit_seconds all
seconds_fit octet n h e =
    let fits : ltb 0 n && leb n 35_712_000 ≡ true = ap timer_fits (sym e) ∙ all_each 256 octet_fits refl octet (omega arith) in
    (ltb-true 0 n (and_left (ltb 0 n) (leb n 35_712_000) fits), leb-true n 35_712_000 (and_right (ltb 0 n) (leb n 35_712_000) fits))

-- so a count times its unit fits
pub product : (octet seconds : ℕ) → octet < 256 → (octet / 32 ≡ 7 → ⊥) → (octet % 32 ≡ 0 → ⊥) → seconds ≡ unit_seconds (octet / 32)
    → Fits w64 (octet % 32 * seconds)
unfolding timer_of
product octet seconds byte on some e =
    rw e (Fits-below tt (seconds_fit octet (octet % 32 * unit_seconds (octet / 32)) (omega arith) (simp (ne_eqb (octet / 32) 7 on, ne_eqb (octet % 32) 0 some))).1)
