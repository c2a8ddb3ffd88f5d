-- The timer octet: the top three bits give the unit, the low five the count.
use Rattle.std.specs.Prelude.{ℕ, ◌*◌, ◌/◌, ◌%◌, cond, List, [], ◌∷◌, eqb}
use Rattle.octets.specs.Part.{padded}
use Rattle.timer.specs.declared.Timer.{Timer}
use Rattle.timer.specs.declared.Timer.TheVariants.{None, Seconds, Deactivated}

-- units 0 to 6 in seconds, unit 7 being no length of time: ten minutes, one hour, ten hours, two seconds, thirty seconds, one minute, 320 hours
unfoldable pub unit_seconds : ℕ → ℕ
unit_seconds unit =
    cond (eqb unit 0) 600
    (cond (eqb unit 1) 3600
    (cond (eqb unit 2) 36000
    (cond (eqb unit 3) 2
    (cond (eqb unit 4) 30
    (cond (eqb unit 5) 60
    (cond (eqb unit 6) 1152000 0))))))

-- unit 7 means deactivated; count 0 with another unit sets no hold; any other octet says its count times its unit
unfoldable pub timer_of : ℕ → Timer
timer_of octet =
    let unit = octet / 32 in
    let count = octet % 32 in
    cond (eqb unit 7) Deactivated (cond (eqb count 0) None (Seconds (count * unit_seconds unit)))

-- a timer in six numbers: 0 none, 1 and its seconds, 2 deactivated
unfoldable pub timer_numbers : Timer → List ℕ
timer_numbers None = padded 6 (0 ∷ [])
timer_numbers (Seconds n) = padded 6 (1 ∷ n ∷ [])
timer_numbers Deactivated = padded 6 (2 ∷ [])
